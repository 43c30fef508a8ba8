use Rattle.std.proofs.Common.{◌≡◌, ◌≤◌, true, Some, length, sym, arith}
use Rattle.ks_core.specs.Entry.{keysym_in}
use Rattle.ks_core.specs.Lines.{is_sound}
use Rattle.ks_core.specs.Names.{keysym_named, is_word_or_number}
use Rattle.ks_core.proofs.BuiltInLemmas.{built_in-named}
use Rattle.ks_core.proofs.NamedLemmas.{sound-parts, is_word_or_number-word, keysym_named-built_in, keysym_named-given, IfSome-map, IfSome-both}
use Rattle.ks_core.proofs.names.NameTable.first_name.Goals as goal

pub returns-in-Some-clause-short : goal.returns-in-Some-clause-short
returns-in-Some-clause-short c = (built_in-named c.in-Some.name.now c.args.keysym (sym c.in-Some.ensures)).1

pub returns-in-Some-clause-back : goal.returns-in-Some-clause-back
returns-in-Some-clause-back c = keysym_named-built_in c.args.self.now c.in-Some.name.now c.args.keysym (built_in-named c.in-Some.name.now c.args.keysym (sym c.in-Some.ensures)).0

pub returns-in-Some-clause-lexical : goal.returns-in-Some-clause-lexical
returns-in-Some-clause-lexical c = (built_in-named c.in-Some.name.now c.args.keysym (sym c.in-Some.ensures)).2

pub returns-in-None-clause-short : goal.returns-in-None-clause-short
returns-in-None-clause-short c =
    IfSome-map c.further_name.result (λ name. is_sound (name.now, c.args.keysym) ≡ true) (λ name. length name.now ≤ 64)
    (λ name sound. let short = (sound-parts (name.now, c.args.keysym) sound).short in omega (arith, short)) c.further_name.ensures.sound

pub returns-in-None-clause-back : goal.returns-in-None-clause-back
returns-in-None-clause-back c =
    IfSome-both c.further_name.result (λ name. is_sound (name.now, c.args.keysym) ≡ true) (λ name. keysym_in c.args.self.now.names name.now ≡ Some c.args.keysym)
    (λ name. keysym_named c.args.self.now name.now ≡ Some c.args.keysym)
    (λ name sound back. keysym_named-given c.args.self.now name.now c.args.keysym (sound-parts (name.now, c.args.keysym) sound).not_built_in back) c.further_name.ensures.sound c.further_name.ensures.back

pub returns-in-None-clause-lexical : goal.returns-in-None-clause-lexical
returns-in-None-clause-lexical c =
    IfSome-map c.further_name.result (λ name. is_sound (name.now, c.args.keysym) ≡ true) (λ name. is_word_or_number name.now ≡ true)
    (λ name sound. is_word_or_number-word name.now (sound-parts (name.now, c.args.keysym) sound).word) c.further_name.ensures.sound

-- The keysym of a name that is given as bytes: they may be no text, and those of a built-in or a further name are.
use Rattle.std.proofs.Common.{◌≡◌, ℕ, Bool, true, false, List, Option, None, Some, cond, refl, subst, sym, ap, ap₂, ◌∙◌}
use Rattle.std.specs.List.{list_all}
use Rattle.std.specs.Option.{option_or}
use Rattle.std.proofs.lemmas.Str.{IsUtf8-from_ascii, IsUtf8-from_is_utf8, is_utf8-from_IsUtf8}
use Rattle.std.specs.Str.{IsAscii, IsUtf8, is_utf8}
use Rattle.ks_core.specs.BuiltIn.{built_in}
use Rattle.ks_core.specs.Entry.{keysym_in}
use Rattle.ks_core.specs.Lines.{is_sound}
use Rattle.ks_core.specs.Name.{hex_keysym, u_keysym}
use Rattle.ks_core.specs.Names.{keysym_named}
use Rattle.ks_core.specs.Table.{KeysymTable}
use Rattle.ks_core.proofs.IndexLemmas.{keysym_in-entry}
use Rattle.ks_core.proofs.NamedLemmas.{keysym_named-built_in, sound-parts}
use Rattle.ks_core.proofs.X11Lemmas.{word-ascii}

pub ascii_is_utf8 : (name : List ℕ) → IsAscii name → is_utf8 name ≡ true
ascii_is_utf8 name ascii = is_utf8-from_IsUtf8 name (IsUtf8-from_ascii name ascii)

pub built_in_text : (given : KeysymTable) (name : List ℕ) (keysym : ℕ) → Some keysym ≡ keysym_in built_in name → IsAscii name → Some keysym ≡ cond (is_utf8 name) (keysym_named given name) None
built_in_text given name keysym found ascii =
    sym (ap (λ b. cond b (keysym_named given name) None) (ascii_is_utf8 name ascii) ∙ keysym_named-built_in given name keysym (sym found))

-- a further name of a sound table is a word, and not built in
pub further_text : (given : KeysymTable) (name : List ℕ) (keysym : ℕ) → list_all is_sound given.names ≡ true → Some keysym ≡ keysym_in given.names name → Some keysym ≡ cond (is_utf8 name) (keysym_named given name) None
unfolding keysym_named
further_text given name keysym sound found =
    let e = keysym_in-entry is_sound given.names name keysym sound (sym found) in
    let parts = sound-parts e.0 e.1 in
    let ascii = subst IsAscii e.2 (word-ascii e.0.0 parts.word) in
    let not_built_in = subst (λ n. keysym_in built_in n ≡ None) e.2 parts.not_built_in in
    let rest = option_or (u_keysym name) (hex_keysym name) in
    sym (ap (λ b. cond b (keysym_named given name) None) (ascii_is_utf8 name ascii) ∙ ap₂ (λ a b. option_or a (option_or b rest)) not_built_in (sym found))

pub of_text : (given : KeysymTable) (name text : List ℕ) (o : Option ℕ) → text ≡ name → IsUtf8 name → o ≡ keysym_named given text → o ≡ cond (is_utf8 name) (keysym_named given name) None
of_text given name text o is utf8 found = found ∙ ap (keysym_named given) is ∙ sym (ap (λ b. cond b (keysym_named given name) None) (is_utf8-from_IsUtf8 name utf8))

pub of_none : (given : KeysymTable) (name : List ℕ) → (IsUtf8 name → ⊥) → None ≡ cond (is_utf8 name) (keysym_named given name) None
of_none given name other = by (is_utf8 name) refl
  where
    by : (b : Bool) → is_utf8 name ≡ b → None ≡ cond b (keysym_named given name) None
    by true e = absurd (other (IsUtf8-from_is_utf8 name e))
    by false e = refl

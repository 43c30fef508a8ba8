-- How printed actions are read.
use Rattle.std.proofs.Common.{◌≡◌, ℕ, pos, negsuc, ◌+◌, ◌<◌, ◌≤◌, ◌^◌, Bool, true, false, List, [], ◌∷◌, ◌++◌, codes, refl, sym, subst, arith, append-nil}
use Rattle.std.proofs.Math.Facts.{leb_yes}
use Rattle.std.specs.List.{flat_map}
use Rattle.kx_mods.specs.Mods.{mask}
use Rattle.kx_mods.specs.declared.mods.Mods.{Mods}
use Rattle.kx_print.specs.ActionText.{action_text, mods_argument, group_argument, flag, affect}
use Rattle.kx_tables.specs.Sound.{ActionHolds, GroupChangeHolds}
use Rattle.kx_tables.specs.declared.rows.Action.{Action}
use Rattle.kx_tables.specs.declared.rows.Action.TheVariants as actions
use Rattle.kx_tables.specs.declared.rows.GroupChange.{GroupChange}
use Rattle.kx_tables.specs.declared.rows.GroupChange.TheVariants.{Absolute, Relative}
use Rattle.roundtrip_text.specs.Slices.{Slice, Lexes, LexesBefore}
use Rattle.roundtrip_text.specs.KeyPhrases.{ArgumentPhrase, Flag, Words, argument_slices, behind_comma, call_slices}
use Rattle.roundtrip_text.proofs.Lexing.{then_lexes, before_lexes, then_before, decimal_lexes}
use Rattle.roundtrip_text.proofs.Phrases.{marks_lex}
use Rattle.roundtrip_text.specs.Keys.{mods_phrase, change_phrase, flag_phrases, two_flags, affect_phrases, call_phrase, action_phrase}
use Rattle.roundtrip_text.proofs.Lines.{is_text_word, one_word, before_before, mods_lex}

-- what stands after something is nothing
pub before_nothing : {a : List ℕ} {x : List Slice} → LexesBefore a x → LexesBefore (a ++ []) (x ++ [])
before_nothing {a} {x} h = subst (λ bs. LexesBefore bs (x ++ [])) (sym (append-nil a)) (subst (λ ss. LexesBefore a ss) (sym (append-nil x)) h)

-- ---- Arguments

mods_argument_lexes : (mods : Mods) → mask mods < 2 ^ 8 → LexesBefore (mods_argument mods) (argument_slices (mods_phrase mods))
mods_argument_lexes mods small = before_before (one_word (codes "modifiers") refl) refl (then_before (marks_lex (codes "=") refl) (mods_lex mods small))

-- how far a relative change goes
pub fall_bound : (n : ℕ) → GroupChangeHolds (Relative (negsuc n)) → n ≤ 31
fall_bound n h = leb_yes h.0.le

pub rise_bound : (n : ℕ) → GroupChangeHolds (Relative (pos n)) → n ≤ 32
rise_bound n h = leb_yes h.1.le

change_lexes : (change : GroupChange) → GroupChangeHolds change → LexesBefore (group_argument change) (argument_slices (change_phrase change))
change_lexes (Absolute group) h = before_before (one_word (codes "group") refl) refl (then_before (marks_lex (codes "=") refl) (decimal_lexes (group + 1) (omega (arith, h))))
change_lexes (Relative (pos n)) h =
    let most = rise_bound n h in before_before (one_word (codes "group") refl) refl (then_before (marks_lex (codes "=+") refl) (decimal_lexes n (omega (arith, most))))
change_lexes (Relative (negsuc n)) h =
    let most = fall_bound n h in before_before (one_word (codes "group") refl) refl (then_before (marks_lex (codes "=-") refl) (decimal_lexes (n + 1) (omega (arith, most))))

-- a word after a comma
comma_word : (w : List ℕ) → is_text_word w ≡ true → LexesBefore (44 ∷ w) (behind_comma argument_slices (Flag w))
comma_word w h = then_before (marks_lex (codes ",") refl) (one_word w h)

flag_lexes : {a : List ℕ} {x : List Slice} (w : List ℕ) (is_set : Bool) → is_text_word w ≡ true → LexesBefore a x → LexesBefore (a ++ flag w is_set) (x ++ flat_map (behind_comma argument_slices) (flag_phrases w is_set))
flag_lexes {a} {x} w true h la = subst (λ ss. LexesBefore (a ++ 44 ∷ w) (x ++ ss)) (sym (append-nil (behind_comma argument_slices (Flag w)))) (before_before la refl (comma_word w h))
flag_lexes w false h la = before_nothing la

flags_lex : {a : List ℕ} {x : List Slice} (clear latch : Bool) → LexesBefore a x → LexesBefore (a ++ (flag (codes "clearLocks") clear ++ flag (codes "latchToLock") latch)) (x ++ flat_map (behind_comma argument_slices) (two_flags clear latch))
flags_lex true true la = before_before la refl (before_before (comma_word (codes "clearLocks") refl) refl (comma_word (codes "latchToLock") refl))
flags_lex true false la = before_before la refl (comma_word (codes "clearLocks") refl)
flags_lex false true la = before_before la refl (comma_word (codes "latchToLock") refl)
flags_lex false false la = before_nothing la

affect_word : (w : List ℕ) → is_text_word w ≡ true → LexesBefore (codes ",affect=" ++ w) (behind_comma argument_slices (Words (codes "affect") (w ∷ [])))
affect_word w h = before_before (comma_word (codes "affect") refl) refl (then_before (marks_lex (codes "=") refl) (one_word w h))

affect_lexes : {a : List ℕ} {x : List Slice} (locks unlocks : Bool) → LexesBefore a x → LexesBefore (a ++ affect locks unlocks) (x ++ flat_map (behind_comma argument_slices) (affect_phrases locks unlocks))
affect_lexes true true la = before_nothing la
affect_lexes true false la = before_before la refl (affect_word (codes "lock") refl)
affect_lexes false true la = before_before la refl (affect_word (codes "unlock") refl)
affect_lexes false false la = before_before la refl (affect_word (codes "neither") refl)

-- ---- Calls

-- a word, and arguments between parentheses
called : (w arguments : List ℕ) (p : ArgumentPhrase) (ps : List ArgumentPhrase) → is_text_word w ≡ true → LexesBefore arguments (argument_slices p ++ flat_map (behind_comma argument_slices) ps)
    → Lexes (w ++ (codes "(" ++ (arguments ++ codes ")"))) (call_slices (call_phrase w (p ∷ ps)))
called w arguments p ps h la = before_lexes (one_word w h) refl (then_lexes (marks_lex (codes "(") refl) (before_lexes la refl (marks_lex (codes ")") refl)))

pub action_lexes : (action : Action) → ActionHolds action → Lexes (action_text action) (call_slices (action_phrase action))
action_lexes actions.None h = before_lexes (one_word (codes "NoAction") refl) refl (marks_lex (codes "()") refl)
action_lexes (actions.SetMods mods clear) h = called (codes "SetMods") _ (mods_phrase mods) (flag_phrases (codes "clearLocks") clear) refl (flag_lexes (codes "clearLocks") clear refl (mods_argument_lexes mods h))
action_lexes (actions.LatchMods mods clear latch) h = called (codes "LatchMods") _ (mods_phrase mods) (two_flags clear latch) refl (flags_lex clear latch (mods_argument_lexes mods h))
action_lexes (actions.LockMods mods locks unlocks) h = called (codes "LockMods") _ (mods_phrase mods) (affect_phrases locks unlocks) refl (affect_lexes locks unlocks (mods_argument_lexes mods h))
action_lexes (actions.SetGroup group clear) h = called (codes "SetGroup") _ (change_phrase group) (flag_phrases (codes "clearLocks") clear) refl (flag_lexes (codes "clearLocks") clear refl (change_lexes group h))
action_lexes (actions.LatchGroup group clear latch) h = called (codes "LatchGroup") _ (change_phrase group) (two_flags clear latch) refl (flags_lex clear latch (change_lexes group h))
action_lexes (actions.LockGroup group) h = called (codes "LockGroup") _ (change_phrase group) [] refl (subst (λ ss. LexesBefore (group_argument group) ss) (sym (append-nil (argument_slices (change_phrase group)))) (change_lexes group h))

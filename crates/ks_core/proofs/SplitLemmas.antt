-- A text's first line.
use Rattle.std.proofs.Common.{◌≡◌, ℕ, suc, ◌+◌, ◌<◌, ◌≤◌, ◌==◌, Bool, true, false, not, cond, nat_lt, List, [], ◌∷◌, length, take, drop, position, None, Some, ap, arith, refl}
use Rattle.std.proofs.lemmas.Bool.{ltb-true, ltb-false}
use Rattle.std.proofs.lemmas.List.Splits.{slice_split_first}
use Rattle.std.specs.List.{position_or_len, onto_first}
use Rattle.ks_core.specs.Lines.{lines_of}

abbrev is_end : ℕ → Bool
is_end c = c == 10

found_at : (text : List ℕ) (end : ℕ) (b : Bool) → nat_lt (position_or_len is_end text) (length text) ≡ b → Some end ≡ cond b (Some (position_or_len is_end text)) None → (position_or_len is_end text < length text) × (end ≡ position_or_len is_end text)
found_at text end true within h = (ltb-true _ _ within, cc)
found_at text end false within h = cc

pub lines_of-found : (text : List ℕ) (end : ℕ) → Some end ≡ position is_end text → lines_of text ≡ take end text ∷ lines_of (drop (end + 1) text)
lines_of-found text end h =
    let at = found_at text end (nat_lt (position_or_len is_end text) (length text)) refl h in
    rw at.1 (slice_split_first is_end text 0 at.0)

not_found : (text : List ℕ) → None ≡ position is_end text → length text ≤ position_or_len is_end text
not_found text h = by (nat_lt (position_or_len is_end text) (length text)) refl h
  where
    by : (b : Bool) → nat_lt (position_or_len is_end text) (length text) ≡ b → None ≡ cond b (Some (position_or_len is_end text)) None → length text ≤ position_or_len is_end text
    by true within h = cc
    by false past h = ltb-false (position_or_len is_end text) (length text) past

whole : (text : List ℕ) → length text ≤ position_or_len is_end text → lines_of text ≡ text ∷ []
whole [] h = refl
whole (c ∷ cs) h = by (is_end c) refl (whole cs) h
  where
    by : (b : Bool) → is_end c ≡ b → (length cs ≤ position_or_len is_end cs → lines_of cs ≡ cs ∷ []) → suc (length cs) ≤ cond (not b) (1 + position_or_len is_end cs) 0 → cond b ([] ∷ lines_of cs) (onto_first c (lines_of cs)) ≡ (c ∷ cs) ∷ []
    by true is rest h = absurd (omega arith)
    by false is rest h = ap (onto_first c) (rest (omega arith))

pub lines_of-none : (text : List ℕ) → None ≡ position is_end text → lines_of text ≡ text ∷ []
lines_of-none text h = whole text (not_found text h)

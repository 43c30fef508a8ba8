-- Rows by number: what is looked up among them is the first row's of rows in any order.
use Rattle.std.proofs.Common.{◌≡◌, ℕ, ◌≤◌, ◌<◌, ◌+◌, zero, suc, Bool, true, false, ◌&&◌, nat_eq, nat_le, nat_lt, List, [], ◌∷◌, Option, Some, length, map, cond, refl, ap, ◌∙◌, arith}
use Rattle.std.proofs.lemmas.Bool.{and_parts, leb-true}
use Rattle.std.proofs.lemmas.Bool.Decides.{nat_tests}
use Rattle.std.specs.Map.{lookup}
use Rattle.kx_text.specs.FirstKeysym.{by_character, by_number, flipped, put}
use Rattle.kx_text.specs.OlderCharacters.{older_characters}
use Rattle.kx_text.proofs.CharacterTable.{Row, row_at}

-- two rows of other numbers may change places
swap : (a b : Bool) (x y rest : Option ℕ) → (a ≡ true → b ≡ true → ⊥) → cond b y (cond a x rest) ≡ cond a x (cond b y rest)
swap true true x y rest never = absurd (never refl refl)
swap true false x y rest never = refl
swap false b x y rest never = refl

-- a row after one of its number is never looked up
shadow : (a b : Bool) (x y rest : Option ℕ) → (a ≡ false → b ≡ true → ⊥) → cond a x rest ≡ cond a x (cond b y rest)
shadow true b x y rest never = refl
shadow false true x y rest never = absurd (never refl refl)
shadow false false x y rest never = refl

look_put : (n : ℕ) (row : Row) (rows : List Row) → lookup (nat_eq n) (put row rows) ≡ cond (nat_eq n row.0) (Some row.1) (lookup (nat_eq n) rows)
unfolding put
look_put n row [] = refl
look_put n row (next ∷ rows) = by (nat_lt next.0 row.0) (nat_eq row.0 next.0) refl refl (look_put n row rows)
  where
    by : (less same : Bool) → nat_lt next.0 row.0 ≡ less → nat_eq row.0 next.0 ≡ same → lookup (nat_eq n) (put row rows) ≡ cond (nat_eq n row.0) (Some row.1) (lookup (nat_eq n) rows)
        → lookup (nat_eq n) (elim less [ true ↦ next ∷ put row rows | false ↦ elim same [ true ↦ row ∷ rows | false ↦ row ∷ next ∷ rows ] ])
        ≡ cond (nat_eq n row.0) (Some row.1) (cond (nat_eq n next.0) (Some next.1) (lookup (nat_eq n) rows))
    by true same less other rest =
        ap (λ found. cond (nat_eq n next.0) (Some next.1) found) rest
        ∙ swap (nat_eq n row.0) (nat_eq n next.0) (Some row.1) (Some next.1) (lookup (nat_eq n) rows) (λ here there. grind (arith, nat_tests, less, here, there))
    by false true more same rest = shadow (nat_eq n row.0) (nat_eq n next.0) (Some row.1) (Some next.1) (lookup (nat_eq n) rows) (λ here there. grind (arith, nat_tests, same, here, there))
    by false false more other rest = refl

look_by_number : (n : ℕ) (rows : List Row) → lookup (nat_eq n) (by_number rows) ≡ lookup (nat_eq n) rows
unfolding by_number
look_by_number n [] = refl
look_by_number n (row ∷ rows) =
    look_put n row (by_number rows) ∙ ap (λ found. cond (nat_eq n row.0) (Some row.1) found) (look_by_number n rows)

pub first_row : (n : ℕ) → lookup (nat_eq n) by_character ≡ lookup (nat_eq n) (map flipped older_characters)
unfolding by_character
first_row n = look_by_number n (map flipped older_characters)

-- each number is greater than the one before it
unfoldable pub climb : ℕ → List Row → Bool
climb low [] = true
climb low (row ∷ rows) = nat_le low row.0 && climb (row.0 + 1) rows

climb_at : (low : ℕ) (rows : List Row) (i : ℕ) → climb low rows ≡ true → i < length rows → low ≤ (row_at rows i).0
unfolding climb
climb_at low [] i h within = absurd (omega (arith, within))
climb_at low (row ∷ rows) zero h within = leb-true low row.0 (and_parts (nat_le low row.0) (climb (row.0 + 1) rows) h).0
climb_at low (row ∷ rows) (suc i) h within =
    let p = and_parts (nat_le low row.0) (climb (row.0 + 1) rows) h in
    let least = leb-true low row.0 p.0 in
    let rest = climb_at (row.0 + 1) rows i p.1 (omega (arith, within)) in omega (arith, least, rest)

-- the row at a place is the one that is looked up by its number
pub climbs_found : (low : ℕ) (rows : List Row) (i : ℕ) → climb low rows ≡ true → i < length rows → lookup (nat_eq (row_at rows i).0) rows ≡ Some (row_at rows i).1
unfolding climb
climbs_found low [] i h within = absurd (omega (arith, within))
climbs_found low (row ∷ rows) zero h within =
    let same : nat_eq row.0 row.0 ≡ true = grind (arith, nat_tests) in
    ap (λ b. cond b (Some row.1) (lookup (nat_eq row.0) rows)) same
climbs_found low (row ∷ rows) (suc i) h within =
    let p = and_parts (nat_le low row.0) (climb (row.0 + 1) rows) h in
    let inside : i < length rows = omega (arith, within) in
    let above = climb_at (row.0 + 1) rows i p.1 inside in
    let other : nat_eq (row_at rows i).0 row.0 ≡ false = grind (arith, nat_tests, above) in
    ap (λ b. cond b (Some row.1) (lookup (nat_eq (row_at rows i).0) rows)) other ∙ climbs_found (row.0 + 1) rows i p.1 inside

pub climbing : climb 0 by_character ≡ true
unfolding climb by_character by_number put older_characters
climbing = refl

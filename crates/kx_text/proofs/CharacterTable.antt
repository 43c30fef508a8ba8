-- The rows of keysyms and characters: where a keysym stands among them.
use Rattle.std.proofs.Common.{◌≡◌, ℕ, ◌≤◌, ◌<◌, ◌+◌, ◌-◌, zero, suc, Bool, true, false, ◌&&◌, nat_eq, nat_le, nat_lt, ◌⊎◌, List, [], ◌∷◌, Option, None, Some, get_or, length, map, cond, inl, inr, refl, sym, ap, ◌∙◌, arith}
use Rattle.std.proofs.lemmas.Bool.{and_parts, cases_lt, leb-true}
use Rattle.std.proofs.lemmas.Bool.Decides.{nat_tests}
use Rattle.std.proofs.lemmas.List.{get_or-map, length-map}
use Rattle.std.specs.Char.{IsScalar, InScalarRange, OutOfScalarRange}
use Rattle.std.specs.Map.{lookup}
use Rattle.std.specs.Option.{MatchOption, SomeIff}
use Rattle.kx_text.specs.Characters.{character_of, is_latin, is_unicode, older_character, scalar_of}
use Rattle.kx_text.specs.OlderCharacters.{older_characters}

abbrev pub Row : Type 0
Row = ℕ × ℕ

abbrev pub row_at : List Row → ℕ → Row
row_at rows place = get_or rows place (0, 0)

-- keysyms rise from one that is greater than a number on, and no character is a surrogate
unfoldable pub is_table : ℕ → List Row → Bool
is_table low [] = true
is_table low (row ∷ rows) = nat_le (low + 1) row.0 && (nat_le row.0 0xffff && (nat_le row.1 0xd7ff && is_table row.0 rows))

pub table : is_table 0xff older_characters ≡ true
unfolding is_table older_characters
table = refl

record Parts (low : ℕ) (row : Row) (rows : List Row) : Type 0 where
  above : low < row.0
  below : row.0 ≤ 0xffff
  scalar : row.1 ≤ 0xd7ff
  rest : is_table row.0 rows ≡ true

parts : (low : ℕ) (row : Row) (rows : List Row) → is_table low (row ∷ rows) ≡ true → Parts low row rows
unfolding is_table
parts low row rows h =
    let a = and_parts (nat_le (low + 1) row.0) (nat_le row.0 0xffff && (nat_le row.1 0xd7ff && is_table row.0 rows)) h in
    let b = and_parts (nat_le row.0 0xffff) (nat_le row.1 0xd7ff && is_table row.0 rows) a.1 in
    let d = and_parts (nat_le row.1 0xd7ff) (is_table row.0 rows) b.1 in
    let least = leb-true (low + 1) row.0 a.0 in
    record {
      above = omega (arith, least);
      below = leb-true row.0 0xffff b.0;
      scalar = leb-true row.1 0xd7ff d.0;
      rest = d.1;
    }

-- what the row at a place keeps
pub record Kept (low : ℕ) (row : Row) : Type 0 where
  pub above : low < row.0
  pub below : row.0 ≤ 0xffff
  pub scalar : row.1 ≤ 0xd7ff

pub kept : (low : ℕ) (rows : List Row) (i : ℕ) → is_table low rows ≡ true → i < length rows → Kept low (row_at rows i)
kept low [] i h within = absurd (omega (arith, within))
kept low (row ∷ rows) zero h within =
    let p = parts low row rows h in record { above = p.above; below = p.below; scalar = p.scalar }
kept low (row ∷ rows) (suc i) h within =
    let p = parts low row rows h in
    let k = kept row.0 rows i p.rest (omega (arith, within)) in
    record { above = omega (arith, p.above, k.above); below = k.below; scalar = k.scalar }

-- the row at a place is the one that is looked up by its keysym
pub found : (low : ℕ) (rows : List Row) (i : ℕ) → is_table low rows ≡ true → i < length rows → lookup (nat_eq (row_at rows i).0) rows ≡ Some (row_at rows i).1
found low [] i h within = absurd (omega (arith, within))
found low (row ∷ rows) zero h within =
    let same : nat_eq row.0 row.0 ≡ true = grind (arith, nat_tests) in
    ap (λ b. cond b (Some row.1) (lookup (nat_eq row.0) rows)) same
found low (row ∷ rows) (suc i) h within =
    let p = parts low row rows h in
    let inside : i < length rows = omega (arith, within) in
    let k = kept row.0 rows i p.rest inside in
    let other : nat_eq (row_at rows i).0 row.0 ≡ false = grind (arith, nat_tests, k.above) in
    ap (λ b. cond b (Some row.1) (lookup (nat_eq (row_at rows i).0) rows)) other ∙ found row.0 rows i p.rest inside

-- a keysym that no row has is looked up in vain
pub absent : (keysym : ℕ) (rows : List Row) → ((i : ℕ) → i < length rows → (row_at rows i).0 ≡ keysym → ⊥) → lookup (nat_eq keysym) rows ≡ None
absent keysym [] none = refl
absent keysym (row ∷ rows) none =
    by (nat_eq keysym row.0) refl (λ h. absent keysym rows (λ i within is. none (suc i) (omega (arith, within)) is))
  where
    by : (b : Bool) → nat_eq keysym row.0 ≡ b → (nat_eq keysym row.0 ≡ false → lookup (nat_eq keysym) rows ≡ None) → cond b (Some row.1) (lookup (nat_eq keysym) rows) ≡ None
    by true same rest = let is : row.0 ≡ keysym = grind (arith, nat_tests) in absurd (none 0 (omega arith) is)
    by false h rest = rest h

-- the row of a keysym that is looked up
pub record Place (keysym character : ℕ) (rows : List Row) : Type 0 where
  pub place : ℕ
  pub within : place < length rows
  pub is_keysym : (row_at rows place).0 ≡ keysym
  pub is_character : (row_at rows place).1 ≡ character

pub placed : (keysym character : ℕ) (rows : List Row) → lookup (nat_eq keysym) rows ≡ Some character → Place keysym character rows
placed keysym character [] h = absurd (cc h)
placed keysym character (row ∷ rows) h = by (nat_eq keysym row.0) refl h (λ is. placed keysym character rows is)
  where
    by : (b : Bool) → nat_eq keysym row.0 ≡ b → cond b (Some row.1) (lookup (nat_eq keysym) rows) ≡ Some character → (lookup (nat_eq keysym) rows ≡ Some character → Place keysym character rows) → Place keysym character (row ∷ rows)
    by true same is rest =
        record { place = 0; within = omega arith; is_keysym = grind (arith, nat_tests, same); is_character = cc is }
    by false other is rest =
        let p = rest is in
        record { place = suc p.place; within = omega (arith, p.within); is_keysym = p.is_keysym; is_character = p.is_character }

-- the character of a number that is no surrogate
pub scalar_given : (r : Option ℕ) (c : ℕ) → MatchOption r (OutOfScalarRange c) (λ _. InScalarRange c) → SomeIff r (IsScalar c) c → c ≤ 0xd7ff → r ≡ Some c
scalar_given None c (inl range) is low = absurd (omega (arith, range.0, low))
scalar_given None c (inr great) is low = absurd (omega (arith, great, low))
scalar_given (Some x) c range is low = ap Some is.1

-- the character of a number that isn't above all characters
pub scalar_or_none : (r : Option ℕ) (c : ℕ) → MatchOption r (OutOfScalarRange c) (λ _. InScalarRange c) → SomeIff r (IsScalar c) c → c ≤ 0x10ffff → r ≡ scalar_of c
scalar_or_none None c (inl range) is most =
    let inside : (nat_le 0xd800 c && nat_le c 0xdfff) ≡ true = grind (arith, nat_tests, range.0, range.1) in
    sym (ap (λ b. cond b None (Some c)) inside)
scalar_or_none None c (inr great) is most = absurd (omega (arith, great, most))
scalar_or_none (Some x) c range is most =
    let outside : (nat_le 0xd800 c && nat_le c 0xdfff) ≡ false = elim range [
      | inl low ↦ grind (arith, nat_tests, low)
      | inr high ↦ grind (arith, nat_tests, high.0)
    ] in
    ap Some is.1 ∙ sym (ap (λ b. cond b None (Some c)) outside)

-- what a keysym gives, by what it is
pub latin_gives : (k : ℕ) → is_latin k ≡ true → character_of k ≡ Some k
latin_gives k h = ap (λ b. cond b (Some k) (cond (is_unicode k) (scalar_of (k - 0x1000000)) (older_character k))) h

pub unicode_gives : (k : ℕ) → is_latin k ≡ false → is_unicode k ≡ true → character_of k ≡ scalar_of (k - 0x1000000)
unicode_gives k other h =
    ap (λ b. cond b (Some k) (cond (is_unicode k) (scalar_of (k - 0x1000000)) (older_character k))) other
    ∙ ap (λ b. cond b (scalar_of (k - 0x1000000)) (older_character k)) h

pub older_gives : (k : ℕ) → is_latin k ≡ false → is_unicode k ≡ false → character_of k ≡ older_character k
older_gives k other h =
    ap (λ b. cond b (Some k) (cond (is_unicode k) (scalar_of (k - 0x1000000)) (older_character k))) other
    ∙ ap (λ b. cond b (scalar_of (k - 0x1000000)) (older_character k)) h

pub latin_low : (k : ℕ) → is_latin k ≡ true → k ≤ 0xff
latin_low k h = grind (arith, nat_tests, h)

pub high_not_latin : (k : ℕ) → 0xff < k → is_latin k ≡ false
high_not_latin k h = grind (arith, nat_tests, h)

pub low_not_unicode : (k : ℕ) → k ≤ 0xffff → is_unicode k ≡ false
low_not_unicode k h = grind (arith, nat_tests, h)

pub is_unicode_at : (c : ℕ) → 0 < c → c ≤ 0x10ffff → is_unicode (c + 0x1000000) ≡ true
is_unicode_at c least most = grind (arith, nat_tests, least, most)

-- numbers that are the keysyms, or the characters, of the rows
pub length_is : (f : Row → ℕ) (ns : List ℕ) → ns ≡ map f older_characters → length ns ≡ length older_characters
length_is f ns are = ap length are ∙ length-map older_characters f

pub number_at : (f : Row → ℕ) (ns : List ℕ) (i : ℕ) → ns ≡ map f older_characters → i < length older_characters → get_or ns i 0 ≡ f (row_at older_characters i)
number_at f ns i are within = ap (λ ns. get_or ns i 0) are ∙ get_or-map f older_characters i (0, 0) 0 within

-- the keysym of a row gives its character
pub row_gives : (i : ℕ) → i < length older_characters → character_of (row_at older_characters i).0 ≡ Some (row_at older_characters i).1
row_gives i within =
    let k = kept 0xff older_characters i table within in
    older_gives (row_at older_characters i).0 (high_not_latin _ k.above) (low_not_unicode _ k.below)
    ∙ found 0xff older_characters i table within

-- what is known of the number of a character
pub scalar_parts : (c : ℕ) → IsScalar c → (c < 0xd800) ⊎ ((0xe000 ≤ c) × (c < 0x110000))
scalar_parts c h =
    elim (cases_lt c 0xd800) [
      | inl less ↦ inl less
      | inr more ↦
          let no : nat_lt c 0xd800 ≡ false = grind (arith, nat_tests, more) in
          let rest : (nat_le 0xe000 c && nat_lt c 0x110000) ≡ true = sym (ap (λ b. cond b true (nat_le 0xe000 c && nat_lt c 0x110000)) no) ∙ h in
          let parts = and_parts (nat_le 0xe000 c) (nat_lt c 0x110000) rest in
          let below : c < 0x110000 = grind (arith, nat_tests, parts.1) in
          inr (leb-true 0xe000 c parts.0, below)
    ]

pub char_most : (c : ℕ) → IsScalar c → c ≤ 0x10ffff
char_most c h = elim (scalar_parts c h) [ inl less ↦ omega (arith, less) | inr more ↦ omega (arith, more.1) ]

pub char_scalar : (c : ℕ) → IsScalar c → scalar_of c ≡ Some c
char_scalar c h =
    let outside : (nat_le 0xd800 c && nat_le c 0xdfff) ≡ false = elim (scalar_parts c h) [
      | inl less ↦ grind (arith, nat_tests, less)
      | inr more ↦ grind (arith, nat_tests, more.0)
    ] in
    ap (λ b. cond b None (Some c)) outside

scalar_some : (n c : ℕ) → scalar_of n ≡ Some c → n ≡ c
scalar_some n c h = by (nat_le 0xd800 n && nat_le n 0xdfff) h
  where
    by : (b : Bool) → cond b None (Some n) ≡ Some c → n ≡ c
    by true e = absurd (cc e)
    by false e = cc e

-- a keysym of Unicode gives its character
pub unicode_of : (c : ℕ) → IsScalar c → 0 < c → character_of (c + 0x1000000) ≡ Some c
unicode_of c h least =
    let most = char_most c h in
    let other = high_not_latin (c + 0x1000000) (omega (arith, least)) in
    let number : (c + 0x1000000) - 0x1000000 ≡ c = omega arith in
    unicode_gives (c + 0x1000000) other (is_unicode_at c least most) ∙ ap scalar_of number ∙ char_scalar c h

-- why a keysym gives a character
abbrev pub Why : ℕ → ℕ → Type 0
Why k c = ((is_latin k ≡ true) × (k ≡ c)) ⊎ (((0 < c) × (k ≡ c + 0x1000000)) ⊎ (older_character k ≡ Some c))

pub why : (k c : ℕ) → character_of k ≡ Some c → Why k c
why k c h = by (is_latin k) (is_unicode k) refl refl
  where
    by : (a b : Bool) → is_latin k ≡ a → is_unicode k ≡ b → Why k c
    by true b latin unicode = let same : Some k ≡ Some c = sym (latin_gives k latin) ∙ h in inl (latin, cc same)
    by false true latin unicode =
        let same = scalar_some (k - 0x1000000) c (sym (unicode_gives k latin unicode) ∙ h) in
        let least = leb-true 0x1000001 k (and_parts (nat_le 0x1000001 k) (nat_le k 0x110ffff) unicode).0 in
        inr (inl (omega (arith, same, least), omega (arith, same, least)))
    by false false latin unicode = inr (inr (sym (older_gives k latin unicode) ∙ h))

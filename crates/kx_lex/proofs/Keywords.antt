-- A word spells no keyword but one of its length.
use Rattle.std.proofs.Common.{◌≡◌, ℕ, ◌+◌, ◌%◌, ◌<◌, ◌≤◌, ◌==◌, Bool, true, false, List, [], ◌∷◌, length, slice_index, None, Some, filter, refl, sym, ap, ◌∙◌, arith, cond, map, get_or, drop, drop-cons, add-one}
use Rattle.std.proofs.lemmas.List.{length-map, get_or-map}
use Rattle.std.proofs.lemmas.List.FromFn.{get_or-map-range_with_len, length-map-range_with_len}
use Rattle.std.proofs.lemmas.Bool.Decides.{Decides-eqb}
use Rattle.std.specs.Borrow.{Bor}
use Rattle.std.specs.Char.{to_ascii_lowercase}
use Rattle.std.specs.Prelude.{nat_lt}
use Rattle.std.specs.List.{list_all, range_with_len}
use Rattle.std.proofs.lemmas.Bool.{and_parts, ltb-true, eqb-true}
use Rattle.std.specs.Str.{str_eq_ignore_ascii_case, str_to_ascii_lowercase}
use Rattle.std.proofs.lemmas.Slice.Eq.{bytes_eq-Decides}
use Rattle.kx_lex.specs.KeywordLengths.{AreLengths, has_length}
use Rattle.kx_lex.specs.Keywords.{IsByLength, Row, Spelling, keyword_of, of_length, rows_of, spelled_in, spellings}

same_length : (a b : List ℕ) → str_eq_ignore_ascii_case a b ≡ true → length b ≡ length a
same_length a b h =
    let same : str_to_ascii_lowercase a ≡ str_to_ascii_lowercase b = (bytes_eq-Decides (str_to_ascii_lowercase a) (str_to_ascii_lowercase b)).0 h in
    let lengths : length (str_to_ascii_lowercase a) ≡ length (str_to_ascii_lowercase b) = ap length same in
    sym (length-map b to_ascii_lowercase) ∙ sym lengths ∙ length-map a to_ascii_lowercase

test_same : (m n : ℕ) → m ≡ n → (m == n) ≡ true
test_same m n h = (Decides-eqb m n).1 h

spelled_by : (word : List ℕ) (s : Spelling) (ss : List Spelling) → spelled_in word (filter (λ t. length t.0 == length word) ss) ≡ spelled_in word ss
    → (spelled : Bool) → str_eq_ignore_ascii_case word s.0 ≡ spelled → (long : Bool) → (length s.0 == length word) ≡ long
    → spelled_in word (cond long (s ∷ filter (λ t. length t.0 == length word) ss) (filter (λ t. length t.0 == length word) ss)) ≡ cond spelled (Some s.1) (spelled_in word ss)
spelled_by word s ss rest true e true f = rw e refl
spelled_by word s ss rest true e false f = let is = test_same (length s.0) (length word) (same_length word s.0 e) in cc
spelled_by word s ss rest false e true f = rw e rest
spelled_by word s ss rest false e false f = rest

spelled_among : (word : List ℕ) (ss : List Spelling) → spelled_in word (filter (λ s. length s.0 == length word) ss) ≡ spelled_in word ss
spelled_among word [] = refl
spelled_among word (s ∷ ss) = spelled_by word s ss (spelled_among word ss) (str_eq_ignore_ascii_case word s.0) refl (length s.0 == length word) refl

pub spelled_of_length : (word : List ℕ) → spelled_in word (of_length (length word)) ≡ keyword_of word
spelled_of_length word = spelled_among word spellings

shorter_by : (n : ℕ) (s : Spelling) (ss : List Spelling) → filter (λ t. length t.0 == n) ss ≡ [] → length s.0 < n → (long : Bool) → (length s.0 == n) ≡ long → cond long (s ∷ filter (λ t. length t.0 == n) ss) (filter (λ t. length t.0 == n) ss) ≡ []
shorter_by n s ss rest less true f = let same = eqb-true (length s.0) n f in absurd (omega arith)
shorter_by n s ss rest less false f = rest

-- where all are shorter
pub none_longer : (limit n : ℕ) (ss : List Spelling) → list_all (λ s. nat_lt (length s.0) limit) ss ≡ true → limit ≤ n → filter (λ s. length s.0 == n) ss ≡ []
none_longer limit n [] all long = refl
none_longer limit n (s ∷ ss) all long =
    let parts = and_parts (nat_lt (length s.0) limit) (list_all (λ t. nat_lt (length t.0) limit) ss) all in
    let below : length s.0 < limit = ltb-true (length s.0) limit parts.0 in
    shorter_by n s ss (none_longer limit n ss parts.1 long) (omega arith) (length s.0 == n) refl

-- tables that compute to those of each length
pub by_length : (tables : List (Bor (List Row))) → map (λ (t : Bor (List Row)). rows_of t.now) tables ≡ map of_length (range_with_len 0 22) → IsByLength tables
by_length tables same = record {
  long = long;
  each = λ n d less.
      sym (get_or-map (λ (t : Bor (List Row)). rows_of t.now) tables n d (rows_of d.now) (omega (arith, long)))
      ∙ ap (λ xs. get_or xs n (rows_of d.now)) same
      ∙ get_or-map-range_with_len of_length 0 22 n n (rows_of d.now) less (omega arith);
}
  where
    long : length tables ≡ 22
    long = sym (length-map tables (λ (t : Bor (List Row)). rows_of t.now)) ∙ ap length same ∙ length-map-range_with_len of_length 0 22

-- at an index of a loop
pub row_found : (word : List ℕ) (rows : List Row) (i : ℕ) (d : Row) → i < length rows → str_eq_ignore_ascii_case word (get_or rows i d).0.now ≡ true → spelled_in word (rows_of (drop i rows)) ≡ Some (get_or rows i d).1
row_found word rows i d within is = rw (drop-cons rows i d within, is) refl

pub row_passed : (word : List ℕ) (rows : List Row) (i : ℕ) (d : Row) → i < length rows → str_eq_ignore_ascii_case word (get_or rows i d).0.now ≡ false → spelled_in word (rows_of (drop i rows)) ≡ spelled_in word (rows_of (drop (i + 1) rows))
row_passed word rows i d within other = rw (drop-cons rows i d within, other, add-one) refl

-- ---- A word of another length than each keyword of its letter

letter_lowered : (b : ℕ) → to_ascii_lowercase b % 32 ≡ b % 32
letter_lowered b = by (nat_lt b 65) (nat_lt b 91)
  where
    by : (below up_to : Bool) → cond below b (cond up_to (b + 32) b) % 32 ≡ b % 32
    by true up_to = refl
    by false true = omega arith
    by false false = refl

same_letter : (a b : List ℕ) → str_eq_ignore_ascii_case a b ≡ true → slice_index a 0 % 32 ≡ slice_index b 0 % 32
same_letter [] [] h = refl
same_letter [] (y ∷ b) h = cc
same_letter (x ∷ a) [] h = cc
same_letter (x ∷ a) (y ∷ b) h =
    let parts = and_parts (to_ascii_lowercase x == to_ascii_lowercase y) (str_eq_ignore_ascii_case a b) h in
    sym (letter_lowered x) ∙ ap (λ k. k % 32) (eqb-true (to_ascii_lowercase x) (to_ascii_lowercase y) parts.0) ∙ letter_lowered y

-- words that begin with other letters spell nothing alike
pub other_letter : (a b : List ℕ) → ((slice_index a 0 % 32) == (slice_index b 0 % 32)) ≡ false → str_eq_ignore_ascii_case a b ≡ false
other_letter a b other = go (str_eq_ignore_ascii_case a b) refl
  where
    go : (same : Bool) → str_eq_ignore_ascii_case a b ≡ same → str_eq_ignore_ascii_case a b ≡ false
    go true e = let is = test_same (slice_index a 0 % 32) (slice_index b 0 % 32) (same_letter a b e) in cc
    go false e = e

-- some word's length is among those of its letter
abbrev is_among : List ℕ → List ℕ → Bool
is_among table word = has_length (slice_index table (slice_index word 0 % 32)) (length word)

same_among : (table a b : List ℕ) → str_eq_ignore_ascii_case a b ≡ true → is_among table b ≡ is_among table a
same_among table a b h = rw (same_length a b h, same_letter a b h) refl

unspelled_by : (word : List ℕ) (s : Spelling) (ss : List Spelling) (table : List ℕ) → is_among table s.0 ≡ true → is_among table word ≡ false → spelled_in word ss ≡ None → (spelled : Bool) → str_eq_ignore_ascii_case word s.0 ≡ spelled → cond spelled (Some s.1) (spelled_in word ss) ≡ None
unspelled_by word s ss table is other rest true e = let same = same_among table word s.0 e in cc
unspelled_by word s ss table is other rest false e = rest

unspelled : (table word : List ℕ) (ss : List Spelling) → list_all {X = Spelling} (λ s. is_among table s.0) ss ≡ true → is_among table word ≡ false → spelled_in word ss ≡ None
unspelled table word [] all other = refl
unspelled table word (s ∷ ss) all other =
    let parts = and_parts (is_among table s.0) (list_all {X = Spelling} (λ t. is_among table t.0) ss) all in
    unspelled_by word s ss table parts.0 other (unspelled table word ss parts.1 other) (str_eq_ignore_ascii_case word s.0) refl

pub none_of_length : (table word : List ℕ) → AreLengths table → has_length (slice_index table (slice_index word 0 % 32)) (length word) ≡ false → keyword_of word ≡ None
none_of_length table word right other = unspelled table word spellings right.each other

pub none_as_long : (word : List ℕ) → 22 ≤ length word → keyword_of word ≡ None
unfolding spellings
none_as_long word long = sym (spelled_of_length word) ∙ ap (spelled_in word) (none_longer 22 (length word) spellings refl long)

pub none_empty : (word : List ℕ) → length word ≡ 0 → keyword_of word ≡ None
unfolding spellings
none_empty [] e = refl
none_empty (b ∷ word) e = absurd (omega arith)

-- Rows of things in order, and where what a thing owns stands among what all own.
use Rattle.std.proofs.Common.{ℕ, zero, suc, ◌+◌, ◌<◌, ◌≡◌, List, [], ◌∷◌, ◌++◌, None, Some, map, length, take, drop, slice_get, refl, sym, ap, ◌∙◌, arith, append_assoc}
use Rattle.std.proofs.lemmas.List.{append-nil, length-append, take_at, drop_at}
use Rattle.std.proofs.lemmas.List.Concat.{flat_map-append}
use Rattle.std.proofs.lemmas.Option.{none-some, same_Some}
use Rattle.std.specs.List.{flat_map}
use Rattle.kx_builder.specs.Placed.{rows_behind, rows_of}
use Rattle.kx_tables.specs.Content.{part}

-- ---- Rows

module _ {X R : Type 0} (row : List X → X → R) where
  rows_behind_append : (before xs ys : List X) → rows_behind row before (xs ++ ys) ≡ rows_behind row before xs ++ rows_behind row (before ++ xs) ys
  rows_behind_append before [] ys = ap (λ b. rows_behind row b ys) (sym (append-nil before))
  rows_behind_append before (x ∷ xs) ys =
      ap (λ rs. row before x ∷ rs) (rows_behind_append (before ++ x ∷ []) xs ys
      ∙ ap (λ b. rows_behind row (before ++ x ∷ []) xs ++ rows_behind row b ys) (append_assoc before (x ∷ []) xs))

  -- one more thing at the end
  pub rows_push : (xs : List X) (x : X) → rows_of row (xs ++ x ∷ []) ≡ rows_of row xs ++ row xs x ∷ []
  rows_push xs x = rows_behind_append [] xs (x ∷ [])

  behind_get : (before xs : List X) (i : ℕ) (x : X) → slice_get xs i ≡ Some x → slice_get (rows_behind row before xs) i ≡ Some (row (before ++ take i xs) x)
  behind_get before [] i x e = absurd (none-some x e)
  behind_get before (y ∷ ys) zero x e = ap (λ z. Some (row before z)) (same_Some y x e) ∙ ap (λ b. Some (row b x)) (sym (append-nil before))
  behind_get before (y ∷ ys) (suc i) x e =
      behind_get (before ++ y ∷ []) ys i x e ∙ ap (λ b. Some (row b x)) (append_assoc before (y ∷ []) (take i ys))

  pub row_at : (xs : List X) (i : ℕ) (x : X) → slice_get xs i ≡ Some x → slice_get (rows_of row xs) i ≡ Some (row (take i xs) x)
  row_at xs i x e = behind_get [] xs i x e

  behind_length : (before xs : List X) → length (rows_behind row before xs) ≡ length xs
  behind_length before [] = refl
  behind_length before (x ∷ xs) = ap suc (behind_length (before ++ x ∷ []) xs)

  pub rows_length : (xs : List X) → length (rows_of row xs) ≡ length xs
  rows_length xs = behind_length [] xs

  behind_past : (before xs : List X) (i : ℕ) → slice_get xs i ≡ None → slice_get (rows_behind row before xs) i ≡ None
  behind_past before [] i e = refl
  behind_past before (y ∷ ys) zero e = absurd (none-some y (sym e))
  behind_past before (y ∷ ys) (suc i) e = behind_past (before ++ y ∷ []) ys i e

  pub row_past : (xs : List X) (i : ℕ) → slice_get xs i ≡ None → slice_get (rows_of row xs) i ≡ None
  row_past xs i e = behind_past [] xs i e

  -- a function that reads each thing back from its row
  behind_read : (f : R → X) (before xs : List X) → ((i : ℕ) (x : X) → slice_get xs i ≡ Some x → f (row (before ++ take i xs) x) ≡ x) → map f (rows_behind row before xs) ≡ xs
  behind_read f before [] each = refl
  behind_read f before (x ∷ xs) each =
      λ j. (ap (λ b. f (row b x)) (sym (append-nil before)) ∙ each 0 x refl) j ∷
      behind_read f (before ++ x ∷ []) xs (λ i y e. ap (λ b. f (row b y)) (append_assoc before (x ∷ []) (take i xs)) ∙ each (suc i) y e) j

  pub rows_read : (f : R → X) (xs : List X) → ((i : ℕ) (x : X) → slice_get xs i ≡ Some x → f (row (take i xs) x) ≡ x) → map f (rows_of row xs) ≡ xs
  rows_read f xs each = behind_read f [] xs each

-- ---- What things own

-- a list is what stands before a place, the thing there, and what stands after
pub split_at : {X : Type 0} (xs : List X) (i : ℕ) (x : X) → slice_get xs i ≡ Some x → xs ≡ take i xs ++ x ∷ drop (suc i) xs
split_at [] i x e = absurd (none-some x e)
split_at (y ∷ ys) zero x e = ap (λ z. z ∷ ys) (same_Some y x e)
split_at (y ∷ ys) (suc i) x e = ap (λ zs. y ∷ zs) (split_at ys i x e)

pub get_behind : {X : Type 0} (xs ys : List X) (j : ℕ) → slice_get (xs ++ ys) (length xs + j) ≡ slice_get ys j
get_behind [] ys j = let e : 0 + j ≡ j = omega arith in rw e refl
get_behind (x ∷ xs) ys j = let e : suc (length xs) + j ≡ suc (length xs + j) = omega arith in rw e (get_behind xs ys j)

pub get_before : {X : Type 0} (xs ys : List X) (j : ℕ) → j < length xs → slice_get (xs ++ ys) j ≡ slice_get xs j
get_before [] ys j within = absurd (omega (arith, within))
get_before (x ∷ xs) ys zero within = refl
get_before (x ∷ xs) ys (suc j) within = get_before xs ys j (omega (arith, within))

module _ {X A : Type 0} (f : X → List A) where
  flat_split : (before : List X) (x : X) (after : List X) → flat_map f (before ++ x ∷ after) ≡ flat_map f before ++ (f x ++ flat_map f after)
  flat_split before x after = flat_map-append f before (x ∷ after)

  -- the part that begins after what the things before one own, and is as long as what that one owns, is what it owns;
  -- other lists may stand in front and after
  pub part_between : (front back : List A) (before : List X) (x : X) (after : List X) (all : List A) → all ≡ front ++ (flat_map f (before ++ x ∷ after) ++ back) → part all (length front + length (flat_map f before)) (length (f x)) ≡ f x
  part_between front back before x after all e =
      let rest : List A = f x ++ (flat_map f after ++ back) in
      let whole : all ≡ (front ++ flat_map f before) ++ rest =
      e ∙ ap (λ ys. front ++ (ys ++ back)) (flat_split before x after)
      ∙ ap (λ ys. front ++ ys) (append_assoc (flat_map f before) (f x ++ flat_map f after) back ∙ ap (λ ys. flat_map f before ++ ys) (append_assoc (f x) (flat_map f after) back))
      ∙ sym (append_assoc front (flat_map f before) rest) in
      ap (λ ys. part ys (length front + length (flat_map f before)) (length (f x))) whole
      ∙ ap (take (length (f x))) (drop_at (front ++ flat_map f before) rest (length front + length (flat_map f before)) (length-append front (flat_map f before)))
      ∙ take_at (f x) (flat_map f after ++ back) (length (f x)) refl

  pub part_split : (before : List X) (x : X) (after : List X) → part (flat_map f (before ++ x ∷ after)) (length (flat_map f before)) (length (f x)) ≡ f x
  part_split before x after =
      let e : 0 + length (flat_map f before) ≡ length (flat_map f before) = omega arith in
      rw (← e) (part_between [] [] before x after (flat_map f (before ++ x ∷ after)) (sym (append-nil (flat_map f (before ++ x ∷ after)))))

  -- the part that begins after what the things before place i own, and is as long as what the thing there owns, is that
  pub part_at : (xs : List X) (i : ℕ) (x : X) → slice_get xs i ≡ Some x → part (flat_map f xs) (length (flat_map f (take i xs))) (length (f x)) ≡ f x
  part_at xs i x e =
      ap (λ ys. part (flat_map f ys) (length (flat_map f (take i xs))) (length (f x))) (split_at xs i x e)
      ∙ part_split (take i xs) x (drop (suc i) xs)

  -- what stands at place j of what one thing owns
  pub element_split : (before : List X) (x : X) (after : List X) (j : ℕ) → j < length (f x) → slice_get (flat_map f (before ++ x ∷ after)) (length (flat_map f before) + j) ≡ slice_get (f x) j
  element_split before x after j within =
      ap (λ ys. slice_get ys (length (flat_map f before) + j)) (flat_split before x after)
      ∙ get_behind (flat_map f before) (f x ++ flat_map f after) j
      ∙ get_before (f x) (flat_map f after) j within

  pub element_at : (xs : List X) (i : ℕ) (x : X) (j : ℕ) → slice_get xs i ≡ Some x → j < length (f x) → slice_get (flat_map f xs) (length (flat_map f (take i xs)) + j) ≡ slice_get (f x) j
  element_at xs i x j e within =
      ap (λ ys. slice_get (flat_map f ys) (length (flat_map f (take i xs)) + j)) (split_at xs i x e)
      ∙ element_split (take i xs) x (drop (suc i) xs) j within

  -- one more thing at the end
  pub flat_push : (xs : List X) (x : X) → flat_map f (xs ++ x ∷ []) ≡ flat_map f xs ++ f x
  flat_push xs x = flat_map-append f xs (x ∷ []) ∙ ap (λ ys. flat_map f xs ++ ys) (append-nil (f x))

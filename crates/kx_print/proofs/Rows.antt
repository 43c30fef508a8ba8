-- Parts of tables, row by row.
use Rattle.std.proofs.Common.{◌≡◌, ℕ, zero, suc, ◌+◌, ◌<◌, ◌≤◌, List, [], ◌∷◌, ◌++◌, Option, None, Some, IfSome, length, take, drop, slice_get, refl, sym, ap, ◌∙◌, arith, add-one, append_assoc, append-nil}
use Rattle.std.proofs.lemmas.Grind.{flat_map-append}
use Rattle.std.specs.List.{flat_map}
use Rattle.kx_tables.specs.Content.{part}
use Rattle.kx_print.specs.Phrases.{numbered}
use Rattle.kx_tables.proofs.Parts.{slice_get-part}

-- what is said of the row at an index is said of the row that was read there
pub of_row : {X : Type 0} (f : X → List ℕ) (found : Option X) (x : X) (text : List ℕ) → found ≡ Some x → IfSome found (λ y. text ≡ f y) → text ≡ f x
of_row f None x text is holds = cc
of_row f (Some y) x text is holds = let same : y ≡ x = cc in holds ∙ ap f same

-- the row read at a place of a table is the one at its index in the part
pub at_part : {X : Type 0} (xs : List X) (first count i j : ℕ) (x : X) → i < count → j ≡ i → slice_get xs (first + j) ≡ Some x → slice_get (part xs first count) i ≡ Some x
at_part xs first count i j x within same at = slice_get-part xs first count i within ∙ ap (λ n. slice_get xs (first + n)) (sym same) ∙ at

pub take-at : {X : Type 0} (xs : List X) (i : ℕ) (x : X) → slice_get xs i ≡ Some x → take (i + 1) xs ≡ take i xs ++ x ∷ []
take-at xs i x at = ap (λ n. take n xs) (add-one i) ∙ take-here xs i x at
  where
    take-here : {X : Type 0} (xs : List X) (i : ℕ) (x : X) → slice_get xs i ≡ Some x → take (suc i) xs ≡ take i xs ++ x ∷ []
    take-here [] i x at = cc
    take-here (y ∷ ys) zero x at = let same : y ≡ x = cc in ap (λ z. z ∷ []) same
    take-here (y ∷ ys) (suc i) x at = ap (λ t. y ∷ t) (take-here ys i x at)

pub drop-at : {X : Type 0} (xs : List X) (i : ℕ) (x : X) → slice_get xs i ≡ Some x → drop i xs ≡ x ∷ drop (i + 1) xs
drop-at xs i x at = drop-here xs i x at ∙ ap (λ n. x ∷ drop n xs) (sym (add-one i))
  where
    drop-here : {X : Type 0} (xs : List X) (i : ℕ) (x : X) → slice_get xs i ≡ Some x → drop i xs ≡ x ∷ drop (suc i) xs
    drop-here [] i x at = cc
    drop-here (y ∷ ys) zero x at = let same : y ≡ x = cc in ap (λ z. z ∷ ys) same
    drop-here (y ∷ ys) (suc i) x at = drop-here ys i x at

-- one row more of those that are numbered
pub numbered-more : {X Y : Type 0} (f : ℕ → X → List Y) (n : ℕ) (xs : List X) (i : ℕ) (x : X) → slice_get xs i ≡ Some x → numbered f n (take (i + 1) xs) ≡ numbered f n (take i xs) ++ f (i + n) x
numbered-more f n xs i x at = ap (λ k. numbered f n (take k xs)) (add-one i) ∙ here f n xs i x at
  where
    here : {X Y : Type 0} (f : ℕ → X → List Y) (n : ℕ) (xs : List X) (i : ℕ) (x : X) → slice_get xs i ≡ Some x → numbered f n (take (suc i) xs) ≡ numbered f n (take i xs) ++ f (i + n) x
    here f n [] i x at = cc
    here f n (y ∷ ys) zero x at =
        let same : y ≡ x = cc in
        let number : n ≡ 0 + n = omega arith in
        append-nil (f n y) ∙ ap (f n) same ∙ ap (λ m. f m x) number
    here f n (y ∷ ys) (suc i) x at =
        let number : i + (n + 1) ≡ suc i + n = omega arith in
        ap (λ t. f n y ++ t) (here f (n + 1) ys i x at ∙ ap (λ m. numbered f (n + 1) (take i ys) ++ f m x) number)
        ∙ sym (append_assoc (f n y) (numbered f (n + 1) (take i ys)) (f (suc i + n) x))

-- the one row of a part
pub part-one : {X : Type 0} (xs : List X) (first : ℕ) (x : X) → slice_get xs first ≡ Some x → part xs first 1 ≡ x ∷ []
part-one xs first x at = ap (take 1) (drop-at xs first x at)

pub length-part : {X : Type 0} (xs : List X) (first count : ℕ) → first + count ≤ length xs → length (part xs first count) ≡ count
length-part xs first zero within = refl
length-part [] zero (suc count) within = absurd (omega arith)
length-part (x ∷ xs) zero (suc count) within = ap suc (length-part xs 0 count (omega arith))
length-part [] (suc first) (suc count) within = absurd (omega arith)
length-part (x ∷ xs) (suc first) (suc count) within = length-part xs first (suc count) (omega arith)

-- the texts of rows that were written, and of one more
pub flat_map-more : {X : Type 0} (f : X → List ℕ) (xs : List X) (x : X) → flat_map f xs ++ f x ≡ flat_map f (xs ++ x ∷ [])
flat_map-more f xs x = sym (flat_map-append f xs (x ∷ []) ∙ ap (λ t. flat_map f xs ++ t) (append-nil (f x)))

-- Lists that are pushed one by one, and places in lists of things that are apart.
use Rattle.std.proofs.Common.{◌≡◌, ◌≢◌, ℕ, zero, suc, ◌+◌, ◌<◌, ◌≤◌, Bool, true, false, not, cond, List, [], ◌∷◌, ◌++◌, Option, None, Some, length, take, slice_get, nat_lt, refl, sym, ap, ap₂, ◌∙◌, subst, arith}
use Rattle.std.proofs.lemmas.Bool.{lt-ltb}
use Rattle.std.proofs.lemmas.Option.{slice_get_within}
use Rattle.std.specs.List.{position, position_or_len}
use Rattle.roundtrip_text.specs.Source.{AreApart, EachOf}

module _ {X : Type 0} (f : ℕ → X) where
  abbrev pub pushed : ℕ → List X
  pushed zero = []
  pushed (suc n) = pushed n ++ f n ∷ []

  take_one : (n : ℕ) (xs : List X) (x : X) → slice_get xs n ≡ Some x → take (suc n) xs ≡ take n xs ++ x ∷ []
  take_one n [] x is = cc
  take_one zero (y ∷ ys) x is = (let same : y ≡ x = cc in ap (λ z. z ∷ []) same)
  take_one (suc n) (y ∷ ys) x is = ap (λ zs. y ∷ zs) (take_one n ys x is)

  pushed_first : (xs : List X) (n : ℕ) → n ≤ length xs → ((i : ℕ) (x : X) → slice_get xs i ≡ Some x → f i ≡ x) → pushed n ≡ take n xs
  pushed_first xs zero within each = refl
  pushed_first xs (suc n) within each = by (slice_get xs n) refl (pushed_first xs n (omega (arith, within)) each)
    where
      by : (o : Option X) → slice_get xs n ≡ o → pushed n ≡ take n xs → pushed n ++ f n ∷ [] ≡ take (suc n) xs
      by None past first = absurd (there xs n (omega (arith, within)) past)
        where
          there : (ys : List X) (i : ℕ) → i < length ys → slice_get ys i ≢ None
          there [] i less is = omega (arith, less)
          there (y ∷ ys) zero less is = cc
          there (y ∷ ys) (suc i) less is = there ys i (omega (arith, less)) is
      by (Some x) is first = ap₂ (λ ys y. ys ++ y ∷ []) first (each n x is) ∙ sym (take_one n xs x is)

  -- what is pushed by number is the list whose elements they are
  pub pushed_are : (xs : List X) (n : ℕ) → n ≡ length xs → ((i : ℕ) (x : X) → slice_get xs i ≡ Some x → f i ≡ x) → pushed n ≡ xs
  pushed_are xs n size each = pushed_first xs n (omega (arith, size)) each ∙ ap (λ m. take m xs) size ∙ all xs
    where
      all : (ys : List X) → take (length ys) ys ≡ ys
      all [] = refl
      all (y ∷ ys) = ap (λ zs. y ∷ zs) (all ys)

pub each_at : {X : Type 0} (P : X → Type 0) (xs : List X) → EachOf P xs → (i : ℕ) (x : X) → slice_get xs i ≡ Some x → P x
each_at P [] each i x is = cc
each_at P (y ∷ ys) each zero x is = (let same : y ≡ x = cc in subst P same each.0)
each_at P (y ∷ ys) each (suc i) x is = each_at P ys each.1 i x is

-- of things that are apart the first that passes the test of one is that one
position_len : {X Y : Type 0} (f : X → Y) (p : X → Bool) (xs : List X) (i : ℕ) (x : X) → AreApart f xs → slice_get xs i ≡ Some x → p x ≡ true → ((y : X) → f y ≢ f x → p y ≡ false) → position_or_len p xs ≡ i
position_len f p [] i x apart is passes other = cc
position_len f p (y ∷ ys) zero x apart is passes other = (let same : y ≡ x = cc in ap (λ t. cond (not t) (1 + position_or_len p ys) 0) (ap p same ∙ passes))
position_len f p (y ∷ ys) (suc i) x apart is passes other =
    ap (λ t. cond (not t) (1 + position_or_len p ys) 0) (other y (each_at (λ z. f y ≢ f z) ys apart.0 i x is))
    ∙ (let rest = position_len f p ys i x apart.1 is passes other in omega (arith, rest))

pub position_is : {X Y : Type 0} (f : X → Y) (p : X → Bool) (xs : List X) (i : ℕ) (x : X) → AreApart f xs → slice_get xs i ≡ Some x → p x ≡ true → ((y : X) → f y ≢ f x → p y ≡ false) → position p xs ≡ Some i
position_is f p xs i x apart is passes other =
    ap (λ n. cond (nat_lt n (length xs)) (Some n) None) (position_len f p xs i x apart is passes other)
    ∙ ap (λ t. cond t (Some i) None) (lt-ltb i (length xs) (slice_get_within xs i x is))

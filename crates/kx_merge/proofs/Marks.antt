-- How many keys were noted once each of some entries was gone over.
use Rattle.std.proofs.Common.{◌≡◌, ℕ, ◌+◌, ◌<◌, ◌≤◌, zero, suc, List, [], ◌∷◌, ◌++◌, drop, get_or, length, refl, sym, ap, ◌∙◌, subst, arith}
use Rattle.std.proofs.lemmas.List.{drop-append-le}
use Rattle.kx_merge.specs.Renewals.{keys_since}

pub at-last : {P : Type 0} (n i : ℕ) → n < i + 1 → (n < i → P) → (n ≡ i → P) → P
at-last zero zero within earlier here = here refl
at-last zero (suc i) within earlier here = earlier (omega arith)
at-last (suc n) zero within earlier here = absurd (omega (arith, within))
at-last (suc n) (suc i) within earlier here = at-last n i (omega (arith, within)) (λ less. earlier (omega (arith, less))) (λ e. here (ap suc e))

-- each of the first entries has a number of keys, of which no more were noted since
pub record Marked (marks : List ℕ) (count i : ℕ) : Type 0 where
  pub long : length marks ≡ i
  pub within : (n : ℕ) → n < i → get_or marks n 0 ≤ count

pub marked_none : (count : ℕ) → Marked [] count 0
marked_none count = record { long = refl; within = λ n less. absurd (omega (arith, less)) }

mark-before : (marks : List ℕ) (m n : ℕ) → n < length marks → get_or (marks ++ m ∷ []) n 0 ≡ get_or marks n 0
mark-before [] m n less = absurd (omega (arith, less))
mark-before (x ∷ marks) m zero less = refl
mark-before (x ∷ marks) m (suc n) less = mark-before marks m n (omega (arith, less))

mark-last : (marks : List ℕ) (m : ℕ) → get_or (marks ++ m ∷ []) (length marks) 0 ≡ m
mark-last [] m = refl
mark-last (x ∷ marks) m = mark-last marks m

length-next : (marks : List ℕ) (m : ℕ) → length (marks ++ m ∷ []) ≡ length marks + 1
length-next [] m = refl
length-next (x ∷ marks) m = let rest = length-next marks m in omega (arith, rest)

pub length-both : {X : Type 0} (xs ys : List X) → length xs ≤ length (xs ++ ys)
length-both [] ys = omega arith
length-both (x ∷ xs) ys = let rest = length-both xs ys in omega (arith, rest)

module _ {marks : List ℕ} {count i : ℕ} where
  pub marked_next : (more : ℕ) → count ≤ more → Marked marks count i → Marked (marks ++ more ∷ []) more (i + 1)
  marked_next more grown m = record {
    long = length-next marks more ∙ ap (λ n. n + 1) m.long;
    within = λ n less.
        at-last n i less
        (λ before.
        let same = mark-before marks more n (subst (λ j. n < j) (sym m.long) before) in
        let old = m.within n before in
        omega (arith, same, old, grown))
        (λ here.
        let last = ap (λ j. get_or (marks ++ more ∷ []) j 0) (here ∙ sym m.long) ∙ mark-last marks more in
        omega (arith, last));
  }

  -- what was noted since an entry, and what is noted after
  pub since_more : {K : Type 0} (more n : ℕ) (noted keys : List K) → length noted ≡ count → n < i → Marked marks count i → keys_since (marks ++ more ∷ []) (noted ++ keys) n ≡ keys_since marks noted n ++ keys
  since_more more n noted keys counted before m =
      ap (λ j. drop j (noted ++ keys)) (mark-before marks more n (subst (λ j. n < j) (sym m.long) before))
      ∙ drop-append-le (get_or marks n 0) noted keys (let old = m.within n before in omega (arith, old, counted))

  pub since_same : {K : Type 0} (more n : ℕ) (noted : List K) → n < i → Marked marks count i → keys_since (marks ++ more ∷ []) noted n ≡ keys_since marks noted n
  since_same more n noted before m = ap (λ j. drop j noted) (mark-before marks more n (subst (λ j. n < j) (sym m.long) before))

-- The least of interpretations is the first of the least rank.
use Rattle.std.proofs.Common.{◌≡◌, ℕ, ◌<◌, ◌≤◌, nat_lt, Bool, true, false, cond, List, [], ◌∷◌, ◌++◌, fold, filter, Option, None, Some, All, append_assoc, append-nil, refl, sym, ap, ◌∙◌, subst, arith, if◌then◌else◌}
use Rattle.std.proofs.lemmas.Bool.Decides.{nat_tests}
use Rattle.std.proofs.lemmas.List.Elements.{All-nil, All-push, All-append, All-weaker}
use Rattle.kx_compat.specs.Choosing.{IsFirst, IsFirstOrNone, earlier, least, rank}
use Rattle.kx_compat.specs.Interpretations.{Interpretation}

under : (m n : ℕ) → nat_lt m n ≡ true → m < n
under m n h = grind (arith, nat_tests, h)

over : (m n : ℕ) → nat_lt m n ≡ false → n ≤ m
over m n h = grind (arith, nat_tests, h)

module _ (test : Interpretation → Bool) where
  -- nothing follows of one that isn't for the key
  vacuous : (P : Interpretation → Type 0) (j : Interpretation) → test j ≡ false → test j ≡ true → P j
  vacuous P j h0 h1 = let never : true ≡ false = sym h1 ∙ h0 in cc

  single : (P : Interpretation → Type 0) (i : Interpretation) → P i → All P (i ∷ [])
  single P i p = All-push P [] i (All-nil P) p

  module _ (done : List Interpretation) (x : Interpretation) where
    -- one more that doesn't come first
    kept : (i : Interpretation) → IsFirst test done i → (test x ≡ true → rank i ≤ rank x) → IsFirst test (done ++ x ∷ []) i
    kept i f h = record {
      front = f.front;
      behind = f.behind ++ x ∷ [];
      stands = ap (λ xs. xs ++ x ∷ []) f.stands ∙ append_assoc f.front (i ∷ f.behind) (x ∷ []);
      fits_it = f.fits_it;
      in_front = f.in_front;
      at_back = All-push (λ j. test j ≡ true → rank i ≤ rank j) f.behind x f.at_back h;
    }

    -- one more that comes first
    new : test x ≡ true → All (λ j. test j ≡ true → rank x < rank j) done → IsFirst test (done ++ x ∷ []) x
    new h1 all = record { front = done; behind = []; stands = refl; fits_it = h1; in_front = all; at_back = All-nil (λ j. test j ≡ true → rank x ≤ rank j) }

    lesser : (i : Interpretation) → IsFirst test done i → rank x < rank i → All (λ j. test j ≡ true → rank x < rank j) done
    lesser i f less =
        let P : Interpretation → Type 0 = λ j. test j ≡ true → rank x < rank j in
        let front : All P f.front = All-weaker (λ j. test j ≡ true → rank i < rank j) P (λ j h h1. let more : rank i < rank j = h h1 in omega (arith, less, more)) f.front f.in_front in
        let behind : All P f.behind = All-weaker (λ j. test j ≡ true → rank i ≤ rank j) P (λ j h h1. let more : rank i ≤ rank j = h h1 in omega (arith, less, more)) f.behind f.at_back in
        subst (All P) (sym f.stands) (All-append P f.front (i ∷ f.behind) front (All-append P (i ∷ []) f.behind (single P i (λ h1. less)) behind))

    either : (i : Interpretation) → IsFirst test done i → test x ≡ true → (t : Bool) → nat_lt (rank x) (rank i) ≡ t → IsFirst test (done ++ x ∷ []) (if t then x else i)
    either i f h1 true h = new h1 (lesser i f (under (rank x) (rank i) h))
    either i f h1 false h = kept i f (λ y. over (rank x) (rank i) h)

    step : (acc : Option Interpretation) → IsFirstOrNone test done acc → (b : Bool) → test x ≡ b → IsFirstOrNone test (done ++ x ∷ []) (cond b (earlier acc x) acc)
    step None h false h0 = All-push (λ i. test i ≡ false) done x h h0
    step None h true h1 = new h1 (All-weaker (λ i. test i ≡ false) (λ j. test j ≡ true → rank x < rank j) (λ j h0. vacuous (λ j. rank x < rank j) j h0) done h)
    step (Some i) f false h0 = kept i f (vacuous (λ j. rank i ≤ rank j) x h0)
    step (Some i) f true h1 = either i f h1 (nat_lt (rank x) (rank i)) refl

  abbrev Rest : List Interpretation → Type 0
  Rest rest = (done : List Interpretation) (acc : Option Interpretation) → IsFirstOrNone test done acc → IsFirstOrNone test (done ++ rest) (fold earlier acc (filter test rest))

  next : (x : Interpretation) (rest : List Interpretation) → Rest rest → (b : Bool) → test x ≡ b → (done : List Interpretation) (acc : Option Interpretation) → IsFirstOrNone test done acc → IsFirstOrNone test (done ++ x ∷ rest) (fold earlier acc (cond b (x ∷ filter test rest) (filter test rest)))
  next x rest go true h1 done acc h = subst (λ xs. IsFirstOrNone test xs (fold earlier (earlier acc x) (filter test rest))) (append_assoc done (x ∷ []) rest) (go (done ++ x ∷ []) (earlier acc x) (step done x acc h true h1))
  next x rest go false h0 done acc h = subst (λ xs. IsFirstOrNone test xs (fold earlier acc (filter test rest))) (append_assoc done (x ∷ []) rest) (go (done ++ x ∷ []) acc (step done x acc h false h0))

  go : (rest : List Interpretation) → Rest rest
  go [] done acc h = subst (λ xs. IsFirstOrNone test xs acc) (sym (append-nil done)) h
  go (x ∷ rest) done acc h = next x rest (go rest) (test x) refl done acc h

  pub least_is_first : (is : List Interpretation) → IsFirstOrNone test is (least (filter test is))
  least_is_first is = go is [] None (All-nil (λ i. test i ≡ false))

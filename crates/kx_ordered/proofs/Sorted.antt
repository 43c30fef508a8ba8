-- What is looked up in sorted entries.
use Rattle.std.proofs.Common.{◌≡◌, ℕ, zero, suc, ◌<◌, ◌≤◌, Bool, true, false, cond, not, ◌&&◌, List, [], ◌∷◌, length, Option, None, Some, filter, slice_get, refl, sym, ap, ◌∙◌, true≢false, ltb, subst, arith}
use Rattle.std.specs.Cmp.{IsTotalOrder, ranks}
use Rattle.std.specs.List.{AllWithin, slice_index_or}
use Rattle.std.proofs.lemmas.List.Sorted.{IsNonDecreasingBy-from_sort, IsPartitionedBy-ltb, searchable_from_sorted}
use Rattle.std.specs.List.Sorted.{IsNonDecreasingBy, IsPartitionedBy, IsPartitionPoint, IsSortedByKey, IsStableByKey}
use Rattle.std.specs.Map.{lookup}
use Rattle.std.specs.Ordering.{MatchOrdering, is_eq, is_lt, nat_cmp, ordering_index, ordering_reverse}
use Rattle.std.specs.declared.cmp.Ordering.{Ordering}
use Rattle.std.specs.declared.cmp.Ordering.TheVariants.{Less, Equal, Greater}
use Rattle.kx_ordered.specs.Sorted.{EndsBelow}

-- ---- A stable sort

module _ {K V : Type 0} where
  abbrev first_value : List (K × V) → Option V
  first_value [] = None
  first_value (e ∷ es) = Some e.1

  looked_first : (test : K → Bool) (es : List (K × V)) → lookup test es ≡ first_value (filter (λ e. test e.0) es)
  looked_first test [] = refl
  looked_first test (e ∷ es) = by (test e.0) (looked_first test es)
    where
      by : (b : Bool) → lookup test es ≡ first_value (filter (λ e. test e.0) es) → cond b (Some e.1) (lookup test es) ≡ first_value (cond b (e ∷ filter (λ e. test e.0) es) (filter (λ e. test e.0) es))
      by true rest = refl
      by false rest = rest

module _ {K : Type 0} {eq : K → K → Bool} {cmp : K → K → Ordering} (total : IsTotalOrder cmp) (ties : (a b : K) → eq a b ≡ is_eq (cmp a b)) where
  tie_is : (a b : K) → (not (is_lt (cmp a b)) && not (is_lt (cmp b a))) ≡ eq a b
  tie_is a b = ap (λ r. not (is_lt (cmp a b)) && not (is_lt r)) (total.antisymm b a) ∙ by (cmp a b) ∙ sym (ties a b)
    where
      by : (r : Ordering) → (not (is_lt r) && not (is_lt (ordering_reverse r))) ≡ is_eq r
      by Less = refl
      by Equal = refl
      by Greater = refl

  -- the first value of each key stays the first
  pub stably : {V : Type 0} (xs ys : List (K × V)) → length ys ≡ length xs → IsStableByKey (λ (e : K × V). e.0) cmp xs ys → (key : K) → lookup (eq key) ys ≡ lookup (eq key) xs
  stably {V} [] [] same stable key = refl
  stably {V} [] (y ∷ ys) same stable key = absurd (omega (arith, same))
  stably {V} (x ∷ xs) ys same stable key =
      looked_first (eq key) ys ∙ ap (λ test. first_value (filter test ys)) (λ i e. sym (tie_is key e.0) i)
      ∙ ap first_value (stable (key, x.1))
      ∙ ap (λ test. first_value (filter test (x ∷ xs))) (λ i e. tie_is key e.0 i) ∙ sym (looked_first (eq key) (x ∷ xs))

-- ---- A binary search

module _ {K V : Type 0} (c : K → Ordering) where
  abbrev pub rank : K × V → ℕ
  rank e = ordering_index (c e.0)

  abbrev pub value_at : Option (K × V) → Option V
  value_at None = None
  value_at (Some e) = cond (is_eq (c e.0)) (Some e.1) None

  above : (es : List (K × V)) → ((j : ℕ) (d : K × V) → j < length es → 2 ≤ rank (slice_index_or es j d)) → lookup (λ k. is_eq (c k)) es ≡ None
  above [] h = refl
  above (e ∷ es) h = by (c e.0) (h 0 e (omega arith)) (above es (λ j d s. h (suc j) d (omega arith)))
    where
      by : (o : Ordering) → 2 ≤ ordering_index o → lookup (λ k. is_eq (c k)) es ≡ None → cond (is_eq o) (Some e.1) (lookup (λ k. is_eq (c k)) es) ≡ None
      by Less far rest = absurd (omega (arith, far))
      by Equal far rest = absurd (omega (arith, far))
      by Greater far rest = rest

  -- what stands where the lower ones end is what is looked up
  pub looked_at : (es : List (K × V)) (i : ℕ) → AllWithin (λ e. is_lt (c e.0) ≡ true) es 0 i → AllWithin (λ e. is_lt (c e.0) ≡ false) es i (length es) → IsNonDecreasingBy rank es → lookup (λ k. is_eq (c k)) es ≡ value_at (slice_get es i)
  looked_at [] i low high up = refl
  looked_at (e ∷ es) zero low high up = by (c e.0) refl (high 0 e (omega arith) (omega arith))
    where
      by : (o : Ordering) → c e.0 ≡ o → is_lt o ≡ false → cond (is_eq o) (Some e.1) (lookup (λ k. is_eq (c k)) es) ≡ cond (is_eq o) (Some e.1) None
      by Less is up' = absurd (true≢false up')
      by Equal is up' = refl
      by Greater is up' = above es (λ j d s. let least : rank e ≤ rank (slice_index_or es j d) = up 0 (suc j) d (omega arith) (omega arith) in omega (arith, least, ap ordering_index is))
  looked_at (e ∷ es) (suc i) low high up = by (c e.0) (low 0 e (omega arith) (omega arith)) (looked_at es i (λ k d l h. low (suc k) d (omega arith) (omega arith)) (λ k d l h. high (suc k) d (omega arith) (omega arith)) (λ j k d l h. up (suc j) (suc k) d (omega arith) (omega arith)))
    where
      by : (o : Ordering) → is_lt o ≡ true → lookup (λ k. is_eq (c k)) es ≡ value_at (slice_get es i) → cond (is_eq o) (Some e.1) (lookup (λ k. is_eq (c k)) es) ≡ value_at (slice_get es i)
      by Less low' rest = rest
      by Equal low' rest = absurd (true≢false (sym low'))
      by Greater low' rest = absurd (true≢false (sym low'))

-- what stands after the keys below one
abbrev pub value_after : {K V : Type 0} → (K → K → Bool) → K → Option (K × V) → Option V
value_after eq key None = None
value_after eq key (Some e) = cond (eq key e.0) (Some e.1) None

module _ {K : Type 0} {eq : K → K → Bool} {cmp : K → K → Ordering} (total : IsTotalOrder cmp) (ties : (a b : K) → eq a b ≡ is_eq (cmp a b)) where
  -- keys are the same where neither is below the other
  key_test : (key k : K) → is_eq (cmp k key) ≡ eq key k
  key_test key k = ap is_eq (total.antisymm k key) ∙ by (cmp key k) ∙ sym (ties key k)
    where
      by : (r : Ordering) → is_eq (ordering_reverse r) ≡ is_eq r
      by Less = refl
      by Equal = refl
      by Greater = refl

  -- keys below one stand before the others
  pub parted : {V : Type 0} (key : K) (es : List (K × V)) → IsSortedByKey (λ (e : K × V). e.0) cmp es → IsPartitionedBy (λ (e : K × V). is_lt (cmp e.0 key)) es
  parted {V} key es sorted = subst {A = Ordering → Bool} (λ p. IsPartitionedBy (λ (e : K × V). p (cmp e.0 key)) es) (λ i o. below o i) (IsPartitionedBy-ltb (λ (e : K × V). ordering_index (cmp e.0 key)) es 1 (searchable_from_sorted total (λ (e : K × V). e.0) es key sorted))
    where
      below : (o : Ordering) → ltb (ordering_index o) 1 ≡ is_lt o
      below Less = refl
      below Equal = refl
      below Greater = refl

  -- what stands after the keys below one is what is looked up
  pub found : {V : Type 0} (key : K) (es : List (K × V)) (i : ℕ) → IsSortedByKey (λ (e : K × V). e.0) cmp es → IsPartitionPoint (λ (e : K × V). is_lt (cmp e.0 key) ≡ true) (λ (e : K × V). is_lt (cmp e.0 key) ≡ false) es i → (o : Option (K × V)) → o ≡ slice_get es i → lookup (eq key) es ≡ value_after eq key o
  found {V} key es i sorted point o at =
      ap (λ test. lookup test es) (λ j k. sym (key_test key k) j)
      ∙ looked_at (λ k. cmp k key) es i point.0 point.1 (searchable_from_sorted total (λ (e : K × V). e.0) es key sorted)
      ∙ ap (value_at (λ k. cmp k key)) (sym at) ∙ by o
    where
      by : (o : Option (K × V)) → value_at (λ k. cmp k key) o ≡ value_after eq key o
      by None = refl
      by (Some e) = ap (λ b. cond b (Some e.1) None) (key_test key e.0)

-- ---- Numbers

not_below : (a b : ℕ) → b ≤ a → is_lt (nat_cmp a b) ≡ false
not_below a b over = by (nat_cmp a b) (ranks a b)
  where
    by : (o : Ordering) → MatchOrdering o (a < b) (a ≡ b) (b < a) → is_lt o ≡ false
    by Less less = absurd (omega (arith, less, over))
    by Equal same = refl
    by Greater more = refl

abbrev number_at : {V : Type 0} → Option (ℕ × V) → ℕ
number_at None = 0
number_at (Some e) = e.0

-- where the first number is not below one, none is
pub none_below : {V : Type 0} (number : ℕ) (es : List (ℕ × V)) (e : ℕ × V) → IsSortedByKey (λ (e : ℕ × V). e.0) nat_cmp es → Some e ≡ slice_get es 0 → number ≤ e.0 → EndsBelow nat_cmp number es 0
none_below {V} number [] e sorted is low = ((λ k d from high. absurd (omega (arith, high))), λ k d from high. absurd (omega (arith, high)))
none_below {V} number (x ∷ es) e sorted is low =
    let same : e.0 ≡ x.0 = ap number_at is in
    let rising : (k : ℕ) (d : ℕ × V) → k < length (x ∷ es) → x.0 ≤ (slice_index_or (x ∷ es) k d).0 = λ k d high. IsNonDecreasingBy-from_sort (λ (e : ℕ × V). e.0) (x ∷ es) sorted 0 k d (omega arith) high in
    ((λ k d from high. absurd (omega (arith, high))), λ k d from high. not_below (slice_index_or (x ∷ es) k d).0 number (omega (arith, low, same, rising k d high)))

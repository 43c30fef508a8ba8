-- Numbers that are sorted by their names: where no two neighbours have the same name, no two have.
use Rattle.std.proofs.Common.{ℕ, zero, suc, Bool, true, false, List, [], ◌∷◌, ◌≡◌, ◌≢◌, ◌+◌, ◌<◌, length, get_or, refl, arith, ap, sym, ◌∙◌, inl, inr, subst, max}
use Rattle.std.specs.Cmp.{IsStrictWeakOrder}
use Rattle.std.specs.Cmp.Lexicographic.{slice_cmp}
use Rattle.std.specs.Fn.{Called, ComparesAs}
use Rattle.std.specs.List.{All, AllByRecursion, Contains, IsDistinct}
use Rattle.std.specs.List.Sorted.{IsPermutation, IsSortedBy}
use Rattle.std.specs.Ordering.{is_lt, is_eq, nat_cmp, ordering_reverse}
use Rattle.std.specs.declared.cmp.Ordering.{Ordering}
use Rattle.std.specs.declared.cmp.Ordering.TheVariants.{Less, Equal, Greater}
use Rattle.std.specs.Str.{bytes_eq}
use Rattle.std.proofs.lemmas.Bool.{cases_order}
use Rattle.std.proofs.lemmas.Bool.Decides.{eqb_tells}
use Rattle.std.proofs.lemmas.Cmp.{nat_list_cmp_total}
use Rattle.std.proofs.lemmas.Fn.{always_returns_same}
use Rattle.std.proofs.lemmas.List.Sorted.{ranks_by, sorted_far, All-permutation, Contains-permutation}
use Rattle.std.proofs.lemmas.Map.Keys.{IsDistinct-IsPermutation}
use Rattle.std.proofs.lemmas.Map.Text.{is_eq-slice_cmp}
use Rattle.std.proofs.lemmas.Slice.Eq.{bytes_eq-Decides}
use Rattle.std.proofs.Math.Dec.{eqb}
use denote.Param.Members.{Mut}
use denote.Ref.{Bor}
use Rattle.kx_tables.specs.Names.{NamesDiffer, IsRepeated}

-- the number at each place is the place
abbrev pub Numbered : List ℕ → ℕ → Type 0
Numbered xs from = (k : ℕ) → k < length xs → get_or xs k 0 ≡ from + k

get_or_at : (xs : List ℕ) (k d : ℕ) → k < length xs → get_or xs k d ≡ get_or xs k 0
get_or_at [] k d lt = absurd (omega arith)
get_or_at (x ∷ xs) zero d lt = refl
get_or_at (x ∷ xs) (suc k) d lt = get_or_at xs k d (omega arith)

-- which of two names is first
abbrev pub is_before : (ℕ → List ℕ) → ℕ → ℕ → Bool
is_before name x y = is_lt (slice_cmp nat_cmp (name x) (name y))

tail-numbered : (x : ℕ) (xs : List ℕ) (from : ℕ) → Numbered (x ∷ xs) from → Numbered xs (from + 1)
tail-numbered x xs from h k lt = let e : get_or xs k 0 ≡ from + suc k = h (suc k) (omega arith) in omega (arith, e)

all_differ : (x : ℕ) (xs : List ℕ) (from : ℕ) → x < from → Numbered xs from → AllByRecursion (λ y. eqb x y ≡ false) xs
all_differ x [] from low h = tt
all_differ x (y ∷ ys) from low h =
    let here : y ≡ from + 0 = h 0 (omega arith) in (
      elim (eqb_tells x y) [ inl same ↦ absurd (let e = same.1 in omega arith) | inr other ↦ other.0 ],
      all_differ x ys (from + 1) (omega arith) (tail-numbered y ys from h),
    )

numbered_distinct : (xs : List ℕ) (from : ℕ) → Numbered xs from → IsDistinct eqb xs
unfolding IsDistinct
numbered_distinct [] from h = tt
numbered_distinct (x ∷ xs) from h =
    let here : x ≡ from + 0 = h 0 (omega arith) in
    (all_differ x xs (from + 1) (omega arith) (tail-numbered x xs from h), numbered_distinct xs (from + 1) (tail-numbered x xs from h))

differ_from : (x : ℕ) (xs : List ℕ) (q : ℕ) → AllByRecursion (λ y. eqb x y ≡ false) xs → q < length xs → x ≢ get_or xs q 0
differ_from x [] q all lt = absurd (omega arith)
differ_from x (y ∷ ys) zero all lt = λ e. elim (eqb_tells x y) [ inl same ↦ let f = all.0 in cc (same.0) | inr other ↦ other.1 e ]
differ_from x (y ∷ ys) (suc q) all lt = differ_from x ys q all.1 (omega arith)

distinct_places : (xs : List ℕ) (p q : ℕ) → IsDistinct eqb xs → p < q → q < length xs → get_or xs p 0 ≢ get_or xs q 0
unfolding IsDistinct
distinct_places [] p q h lt in_list = absurd (omega arith)
distinct_places (x ∷ xs) p zero h lt in_list = absurd (omega arith)
distinct_places (x ∷ xs) zero (suc q) h lt in_list = differ_from x xs q h.0 (omega arith)
distinct_places (x ∷ xs) (suc p) (suc q) h lt in_list = distinct_places xs p q h.1 (omega arith) (omega arith)

eqb_flips : (x y : ℕ) → eqb x y ≡ eqb y x
eqb_flips x y =
    elim (eqb_tells x y) [
      | inl same ↦ let e : x ≡ y = same.1 in subst (λ (z : ℕ). eqb x z ≡ eqb z x) e refl
      | inr other ↦ elim (eqb_tells y x) [ inl same ↦ absurd (other.1 (sym same.1)) | inr both ↦ cc ]
    ]

other_default : (xs : List ℕ) (k a : ℕ) → k < length xs → get_or xs k 0 ≡ a → get_or xs k a ≡ a
other_default [] k a lt e = absurd (omega arith)
other_default (x ∷ xs) zero a lt e = e
other_default (x ∷ xs) (suc k) a lt e = other_default xs k a (omega arith) e

swapped_default : (xs : List ℕ) (k a : ℕ) → k < length xs → get_or xs k a ≡ a → get_or xs k 0 ≡ a
swapped_default [] k a lt e = absurd (omega arith)
swapped_default (x ∷ xs) zero a lt e = e
swapped_default (x ∷ xs) (suc k) a lt e = swapped_default xs k a (omega arith) e

-- a permutation of the numbers below count has each once
pub places_differ : (xs ys : List ℕ) → Numbered xs 0 → IsPermutation xs ys → (p q : ℕ) → p < q → q < length ys → get_or ys p 0 ≢ get_or ys q 0
places_differ xs ys numbered moved p q = distinct_places ys p q (IsDistinct-IsPermutation eqb eqb_flips xs ys moved (numbered_distinct xs 0 numbered))

pub has_place : (xs ys : List ℕ) → Numbered xs 0 → IsPermutation xs ys → (a : ℕ) → a < length xs → (p : ℕ) × (p < length ys) × (get_or ys p 0 ≡ a)
has_place xs ys numbered moved a lt =
    let at : get_or xs a 0 ≡ a = let e = numbered a lt in omega (arith, e) in
    let found : Contains ys a = Contains-permutation xs ys a moved (a, lt, other_default xs a a lt at) in
    (found.0, found.1, swapped_default ys found.0 a found.1 found.2)

-- where neither name is first, they are the same
tied : (o : Ordering) → is_lt o ≡ false → is_lt (ordering_reverse o) ≡ false → o ≡ Equal
tied Less f g = cc
tied Equal f g = refl
tied Greater f g = cc

ties_are_same : (x y : List ℕ) → is_lt (slice_cmp nat_cmp x y) ≡ false → is_lt (slice_cmp nat_cmp y x) ≡ false → x ≡ y
ties_are_same x y f g =
    let flipped : slice_cmp nat_cmp y x ≡ ordering_reverse (slice_cmp nat_cmp x y) = nat_list_cmp_total.antisymm y x in
    let tie : slice_cmp nat_cmp x y ≡ Equal = tied (slice_cmp nat_cmp x y) f (rw flipped at g) in
    let equal : bytes_eq x y ≡ true = sym (is_eq-slice_cmp x y) ∙ ap is_eq tie in
    (bytes_eq-Decides x y).0 equal

-- sorted numbers whose neighbours have other names: no two have one name
pub names_apart : (name : ℕ → List ℕ) (ys : List ℕ) → IsSortedBy (is_before name) ys → ((k : ℕ) → k + 1 < length ys → name (get_or ys k 0) ≢ name (get_or ys (k + 1) 0)) → (p q : ℕ) → p < q → q < length ys → name (get_or ys p 0) ≢ name (get_or ys q 0)
names_apart name ys sorted neighbours p q lt in_list same =
    let order : IsStrictWeakOrder (is_before name) = ranks_by nat_list_cmp_total name in
    let up : is_before name (get_or ys (p + 1) 0) (get_or ys p 0) ≡ false = sorted_far (is_before name) order ys sorted p (p + 1) 0 (omega arith) (omega arith) in
    let on : is_before name (get_or ys q 0) (get_or ys (p + 1) 0) ≡ false = sorted_far (is_before name) order ys sorted (p + 1) q 0 (omega arith) in_list in
    let back : is_lt (slice_cmp nat_cmp (name (get_or ys p 0)) (name (get_or ys (p + 1) 0))) ≡ false = subst (λ (n : List ℕ). is_lt (slice_cmp nat_cmp n (name (get_or ys (p + 1) 0))) ≡ false) (sym same) on in
    neighbours p (omega arith) (ties_are_same (name (get_or ys p 0)) (name (get_or ys (p + 1) 0)) back up)

pub all_apart : (name : ℕ → List ℕ) (xs ys : List ℕ) → Numbered xs 0 → IsPermutation xs ys → IsSortedBy (is_before name) ys → ((k : ℕ) → k + 1 < length ys → name (get_or ys k 0) ≢ name (get_or ys (k + 1) 0)) → NamesDiffer name (length xs)
all_apart name xs ys numbered moved sorted neighbours i j lt in_list same =
    let at_i = has_place xs ys numbered moved i (omega arith) in
    let at_j = has_place xs ys numbered moved j in_list in
    let same' : name (get_or ys at_i.0 0) ≡ name (get_or ys at_j.0 0) = ap name at_i.2 ∙ same ∙ sym (ap name at_j.2) in
    elim (cases_order at_i.0 at_j.0) [
      | inl one ↦ absurd (let e : get_or ys at_i.0 0 ≡ get_or ys at_j.0 0 = ap (λ (p : ℕ). get_or ys p 0) one in let f = at_i.2 in let h = at_j.2 in omega arith)
      | inr other ↦ elim other [
        | inl before ↦ names_apart name ys sorted neighbours at_i.0 at_j.0 before at_j.1 same'
        | inr after ↦ names_apart name ys sorted neighbours at_j.0 at_i.0 after at_i.1 (sym same')
      ]
    ]

-- two neighbours with one name: the later number repeats the earlier
pub repeats : (name : ℕ → List ℕ) (xs ys : List ℕ) → Numbered xs 0 → IsPermutation xs ys → (p q r : ℕ) → p < q → q < length ys → name (get_or ys p 0) ≡ name (get_or ys q 0) → r ≡ max (get_or ys p 0) (get_or ys q 0) → IsRepeated name (length xs) r
repeats name xs ys numbered moved p q r lt in_list same r_is =
    let apart = places_differ xs ys numbered moved p q lt in_list in
    let low : All (λ (y : ℕ). y < length xs) xs = λ k d within. let e = numbered k within in rw (get_or_at xs k d within) (omega arith) in
    let low' : All (λ (y : ℕ). y < length xs) ys = All-permutation (λ (y : ℕ). y < length xs) xs ys moved low in
    let p_within : get_or ys p 0 < length xs = low' p 0 (omega arith) in
    let q_within : get_or ys q 0 < length xs = low' q 0 in_list in
    elim (cases_order (get_or ys p 0) (get_or ys q 0)) [
      | inl one ↦ absurd (apart one)
      | inr other ↦ elim other [
        | inl up ↦ let e : r ≡ get_or ys q 0 = omega arith in
            record { below = omega arith; earlier = get_or ys p 0; before = omega arith; same = rw e same }
        | inr down ↦ let e : r ≡ get_or ys p 0 = omega arith in
            record { below = omega arith; earlier = get_or ys q 0; before = omega arith; same = rw e (sym same) }
      ]
    ]

-- what a sort by names ensures
pub sorted_by_name : (name : ℕ → List ℕ) {F : Type 0} {g : Mut F (Bor ℕ × (Bor ℕ × Unit {0})) Ordering} {f : F} (ys : List ℕ)
    → ((lt : ℕ → ℕ → Bool) → IsStrictWeakOrder lt → ComparesAs g lt f → IsSortedBy lt ys)
    → ((a : Bor ℕ × (Bor ℕ × Unit {0})) (r : Ordering) (f' : F) → Called g f a r f' → (r ≡ slice_cmp nat_cmp (name a.0.now) (name a.1.0.now)) × (f' ≡ f)) → IsSortedBy (is_before name) ys
sorted_by_name name {g = g} {f = f} ys sorted calls =
    sorted (is_before name) (ranks_by nat_list_cmp_total name)
    (always_returns_same g (λ a r. is_lt r ≡ is_lt (slice_cmp nat_cmp (name a.0.now) (name a.1.0.now))) f (λ a r f' k. (ap is_lt (calls a r f' k).0, (calls a r f' k).1)))

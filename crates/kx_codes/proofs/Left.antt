-- A pair is left by a keycodes body as the rule says.
use Rattle.std.proofs.Common.{◌≡◌, ◌⊎◌, Bool, true, false, cond, not, ◌||◌, ◌==◌, List, [], ◌∷◌, ◌++◌, ◌↔◌, Some, is_some, unwrap_or, refl, sym, ap, subst, ◌∙◌, filter, fold, map, reverse, inl, inr, ⊎_elim}
use Rattle.std.specs.List.{list_any}
use Rattle.std.specs.Str.{bytes_eq}
use Rattle.std.proofs.lemmas.Bool.{false≢true, not-true}
use Rattle.std.proofs.lemmas.List.{append_assoc, append-nil, reverse-append}
use Rattle.std.proofs.lemmas.List.Sums.{fold-append}
use Rattle.std.proofs.lemmas.Slice.Eq.{bytes_eq-Decides}
use Rattle.kx_codes.specs.Indexed.{distinct}
use Rattle.kx_codes.specs.Pairs.{Pair, shares, without, taken, all_taken, said_pairs, pairs_from, pairs_of, code_in, name_in}
use Rattle.kx_codes.proofs.Distinct.{no_first, no_second, from_distinct, code_of_name, name_of_code}
use Rattle.kx_codes.specs.Left.{PairOffer, said_offers, offers_of, IsTaken, IsLeft}
use Rattle.kx_include.specs.Expansion.{Body, End, Begin, Own, Inc}
use Rattle.kx_tree.specs.declared.tree.Mode.{Mode}
use Rattle.kx_tree.specs.declared.tree.Mode.TheVariants.{Augment, Override, Replace}
use Rattle.kx_tree.specs.declared.tree.Statement.{Statement as Said}
use Rattle.kx_tree.specs.declared.tree.Statement.TheVariants as said
use Rattle.kx_merge.proofs.OnePart.{or-first, or-last}

abbrev Has : List Pair → Pair → Type 0
Has [] p = ⊥
Has (q ∷ qs) p = (p ≡ q) ⊎ Has qs p

pushed_cases : (ps : List Pair) (q p : Pair) → Has (ps ++ q ∷ []) p → Has ps p ⊎ (p ≡ q)
pushed_cases [] q p h = ⊎_elim (λ e. inr e) (λ n. absurd n) h
pushed_cases (r ∷ rs) q p h = ⊎_elim (λ e. inl (inl e)) (λ m. ⊎_elim (λ k. inl (inr k)) (λ e. inr e) (pushed_cases rs q p m)) h

pushed_left : (ps : List Pair) (q p : Pair) → Has ps p → Has (ps ++ q ∷ []) p
pushed_left [] q p h = absurd h
pushed_left (r ∷ rs) q p h = ⊎_elim (λ e. inl e) (λ m. inr (pushed_left rs q p m)) h

pushed_last : (ps : List Pair) (q p : Pair) → p ≡ q → Has (ps ++ q ∷ []) p
pushed_last [] q p e = inl e
pushed_last (r ∷ rs) q p e = inr (pushed_last rs q p e)

module _ (keep : Pair → Bool) where
  kept : (ps : List Pair) (p : Pair) → Has (filter keep ps) p → Has ps p × (keep p ≡ true)
  kept [] p h = absurd h
  kept (q ∷ qs) p h = by (keep q) refl (kept qs p) h
    where
      by : (b : Bool) → keep q ≡ b → (Has (filter keep qs) p → Has qs p × (keep p ≡ true)) → Has (cond b (q ∷ filter keep qs) (filter keep qs)) p → Has (q ∷ qs) p × (keep p ≡ true)
      by true e rest m = ⊎_elim (λ same. (inl same, ap keep same ∙ e)) (λ k. (inr (rest k).0, (rest k).1)) m
      by false e rest m = (inr (rest m).0, (rest m).1)

  keeping : (ps : List Pair) (p : Pair) → Has ps p → keep p ≡ true → Has (filter keep ps) p
  keeping [] p h e = absurd h
  keeping (q ∷ qs) p h e = by (keep q) refl (λ k. keeping qs p k e)
    where
      by : (b : Bool) → keep q ≡ b → (Has qs p → Has (filter keep qs) p) → Has (cond b (q ∷ filter keep qs) (filter keep qs)) p
      by true f rest = ⊎_elim (λ same. inl same) (λ k. inr (rest k)) h
      by false f rest = ⊎_elim (λ same. absurd (false≢true (sym f ∙ ap keep (sym same) ∙ e))) rest h

module _ (test : Pair → Bool) where
  none_passes : (ps : List Pair) (p : Pair) → list_any test ps ≡ false → Has ps p → test p ≡ false
  none_passes [] p h m = absurd m
  none_passes (q ∷ qs) p h m = ⊎_elim (λ same. ap test same ∙ or-first (test q) (list_any test qs) h) (λ k. none_passes qs p (or-last (test q) (list_any test qs) h) k) m

  one_passes : (ps : List Pair) → list_any test ps ≡ true → (p : Pair) × Has ps p × (test p ≡ true)
  one_passes [] h = absurd (false≢true h)
  one_passes (q ∷ qs) h = by (test q) refl (one_passes qs) h
    where
      by : (b : Bool) → test q ≡ b → (list_any test qs ≡ true → (p : Pair) × Has qs p × (test p ≡ true)) → (b || list_any test qs) ≡ true → (p : Pair) × Has (q ∷ qs) p × (test p ≡ true)
      by true e rest m = (q, inl refl, e)
      by false e rest m = let found = rest m in (found.0, inr found.1, found.2)

-- the pairs of a list are those that are left after offers
abbrev Holds : List PairOffer → List Pair → Type 0
Holds before ps = (p : Pair) → Has ps p ↔ IsLeft before p

abbrev offer : Mode → Pair → PairOffer
offer mode q = record { mode = mode; pair = q }

-- an offer that is taken
module _ (mode : Mode) (q : Pair) (before : List PairOffer) (ps : List Pair) (held : Holds before ps) (takes : IsTaken (offer mode q) (IsLeft before)) where
  over : Holds (offer mode q ∷ before) (without q ps ++ q ∷ [])
  over p = (
    λ h. ⊎_elim
        (λ m. let k = kept (λ r. not (shares q r)) ps p m in inr ((held p).0 k.0, λ _. not-true (shares q p) k.1))
        (λ e. inl (e, takes))
        (pushed_cases (without q ps) q p h),
    λ h. ⊎_elim
        (λ m. pushed_last (without q ps) q p m.0)
        (λ m. pushed_left (without q ps) q p (keeping (λ r. not (shares q r)) ps p ((held p).1 m.0) (ap not (m.1 takes))))
        h,
  )

  behind : list_any (shares q) ps ≡ false → Holds (offer mode q ∷ before) (ps ++ q ∷ [])
  behind none p = (
    λ h. ⊎_elim
        (λ m. inr ((held p).0 m, λ _. none_passes (shares q) ps p none m))
        (λ e. inl (e, takes))
        (pushed_cases ps q p h),
    λ h. ⊎_elim
        (λ m. pushed_last ps q p m.0)
        (λ m. pushed_left ps q p ((held p).1 m.0))
        h,
  )

-- an offer that is not
module _ (mode : Mode) (q : Pair) (before : List PairOffer) (ps : List Pair) (held : Holds before ps) (stays : IsTaken (offer mode q) (IsLeft before) → ⊥) where
  as-before : Holds (offer mode q ∷ before) ps
  as-before p = (
    λ h. inr ((held p).0 h, λ t. absurd (stays t)),
    λ h. ⊎_elim (λ m. absurd (stays m.1)) (λ m. (held p).1 m.0) h,
  )

abbrev other-mode : Mode → Bool
other-mode Augment = false
other-mode Override = true
other-mode Replace = true

one-taken : (mode : Mode) (q : Pair) (before : List PairOffer) (ps : List Pair) → Holds before ps → Holds (offer mode q ∷ before) (taken mode ps q)
one-taken Augment q before ps held = by (list_any (shares q) ps) refl
  where
    by : (b : Bool) → list_any (shares q) ps ≡ b → Holds (offer Augment q ∷ before) (cond b ps (ps ++ q ∷ []))
    by true e = as-before Augment q before ps held (λ t. let one = one_passes (shares q) ps e in false≢true (sym (t refl one.0 ((held one.0).0 one.1)) ∙ one.2))
    by false e = behind Augment q before ps held (λ _ p left. none_passes (shares q) ps p e ((held p).1 left)) e
one-taken Override q before ps held = over Override q before ps held (λ e. absurd (false≢true (sym (ap other-mode e))))
one-taken Replace q before ps held = over Replace q before ps held (λ e. absurd (false≢true (sym (ap other-mode e))))

abbrev take : List Pair → PairOffer → List Pair
take ps o = taken o.mode ps o.pair

turned : (o : PairOffer) (os before : List PairOffer) → reverse (o ∷ os) ++ before ≡ reverse os ++ o ∷ before
turned o os before = ap (λ l. l ++ before) (reverse-append (o ∷ []) os) ∙ append_assoc (reverse os) (o ∷ []) before

all-taken : (os before : List PairOffer) (ps : List Pair) → Holds before ps → Holds (reverse os ++ before) (fold take ps os)
all-taken [] before ps held = held
all-taken (o ∷ os) before ps held =
    subst (λ l. Holds l (fold take (take ps o) os)) (sym (turned o os before)) (all-taken os (o ∷ before) (take ps o) (one-taken o.mode o.pair before ps held))

included : (mode : Mode) (ps qs : List Pair) → all_taken mode ps qs ≡ fold take ps (map {A = Pair} {B = PairOffer} (offer mode) qs)
included mode ps [] = refl
included mode ps (q ∷ qs) = included mode (taken mode ps q) qs

spoken : (mode : Mode) (s : Said) (ps : List Pair) → said_pairs mode s ps ≡ fold take ps (said_offers mode s)
spoken mode (said.Keycode name code) ps = refl
spoken mode _ ps = refl

folded : (ps : List Pair) (body : Body) → pairs_from ps body ≡ fold take ps (offers_of body)
folded ps End = refl
folded ps (Begin rest) = folded ps rest
folded ps (Own place stated rest) =
    folded (said_pairs stated.mode stated.statement ps) rest ∙ ap (λ qs. fold take qs (offers_of rest)) (spoken stated.mode stated.statement ps) ∙ sym (fold-append take ps (said_offers stated.mode stated.statement) (offers_of rest))
folded ps (Inc mode group body rest) =
    let qs : List Pair = pairs_from [] body in
    folded (all_taken mode ps qs) rest ∙ ap (λ rs. fold take rs (offers_of rest)) (included mode ps qs) ∙ sym (fold-append take ps (map {A = Pair} {B = PairOffer} (offer mode) qs) (offers_of rest))

none-held : Holds [] []
none-held p = (λ h. h, λ h. h)

left : (body : Body) → Holds (reverse (offers_of body)) (pairs_of body)
left body =
    subst (Holds (reverse (offers_of body))) (sym (folded [] body))
    (subst (λ l. Holds l (fold take [] (offers_of body))) (append-nil (reverse (offers_of body))) (all-taken (offers_of body) [] [] none-held))

pair_same : (p q : Pair) → p.name ≡ q.name → p.code ≡ q.code → p ≡ q
pair_same p q names codes = ap (λ n. record { name = n; code = p.code }) names ∙ ap (λ c. record { name = q.name; code = c }) codes

coded_has : (ps : List Pair) (p : Pair) → code_in ps p.name ≡ Some p.code → Has ps p
coded_has [] p h = absurd (false≢true (ap is_some h))
coded_has (q ∷ qs) p h = by (bytes_eq p.name q.name) (bytes_eq-Decides p.name q.name).0 (coded_has qs p) h
  where
    by : (b : Bool) → (b ≡ true → p.name ≡ q.name) → (code_in qs p.name ≡ Some p.code → Has qs p) → cond b (Some q.code) (code_in qs p.name) ≡ Some p.code → Has (q ∷ qs) p
    by true same rest e = inl (pair_same p q (same refl) (sym (ap (λ o. unwrap_or o p.code) e)))
    by false same rest e = inr (rest e)

has_coded : (ps : List Pair) (p : Pair) → distinct ps ≡ true → Has ps p → code_in ps p.name ≡ Some p.code
has_coded [] p d h = absurd h
has_coded (q ∷ qs) p d h = ⊎_elim
    (λ same. ap (λ b. cond b (Some q.code) (code_in qs p.name)) ((bytes_eq-Decides p.name q.name).1 (ap (λ r. r.name) same)) ∙ ap (λ r. Some r.code) (sym same))
    (λ m. ap (λ b. cond b (Some q.code) (code_in qs p.name)) (other (bytes_eq p.name q.name) refl m) ∙ has_coded qs p (no_second (list_any (shares q) qs) (distinct qs) d) m)
    h
  where
    other : (b : Bool) → bytes_eq p.name q.name ≡ b → Has qs p → b ≡ false
    other false e m = refl
    other true e m = absurd (false≢true (
        sym (or-first (bytes_eq q.name p.name) (q.code == p.code) (none_passes (shares q) qs p (no_first (list_any (shares q) qs) (distinct qs) d) m))
        ∙ (bytes_eq-Decides q.name p.name).1 (sym ((bytes_eq-Decides p.name q.name).0 e))))

pub codes_left : (body : Body) (pair : Pair) → (code_in (pairs_of body) pair.name ≡ Some pair.code) ↔ IsLeft (reverse (offers_of body)) pair
codes_left body pair = (
  λ h. (left body pair).0 (coded_has (pairs_of body) pair h),
  λ h. has_coded (pairs_of body) pair (from_distinct [] body refl) ((left body pair).1 h),
)

pub names_left : (body : Body) (pair : Pair) → (name_in (pairs_of body) pair.code ≡ Some pair.name) ↔ IsLeft (reverse (offers_of body)) pair
names_left body pair = (
  λ h. (codes_left body pair).0 (code_of_name (pairs_of body) pair.code pair.name (from_distinct [] body refl) h),
  λ h. name_of_code (pairs_of body) pair.code pair.name (from_distinct [] body refl) ((codes_left body pair).1 h),
)

-- Where keys stand, as entries are put and looked up.
use Rattle.std.proofs.Common.{◌≡◌, ℕ, zero, suc, ◌+◌, Bool, true, false, cond, List, [], ◌∷◌, ◌++◌, length, ◌<◌, IfSome, Option, None, Some, Result, Ok, Err, OnOk, is_some, unwrap_or, slice_get, slice_set, refl, sym, ap, subst, ◌∙◌, true≢false, arith}
use Rattle.std.proofs.lemmas.Iterator.Adapters.{position_from-zero}
use Rattle.std.specs.BTreeMap as tree
use Rattle.std.specs.BTreeMap.{is_at}
use Rattle.std.proofs.lemmas.Cmp.{tied_back}
use Rattle.std.specs.declared.cmp.Ordering.TheVariants.{Less, Equal, Greater}
use Rattle.std.specs.Cmp.{IsEquivalence, IsTotalOrder}
use Rattle.std.proofs.lemmas.Map.Keys.{IsDistinct-head, IsDistinct-tail}
use Rattle.std.specs.Ordering.{is_eq, match_ordering}
use Rattle.std.specs.declared.cmp.Ordering.{Ordering}
use Rattle.std.specs.List.{AllByRecursion, IsDistinct, position, position_from}
use Rattle.std.specs.Map.{keys_of, lookup}
use Rattle.std.specs.Option.{option_map, option_or}
use Rattle.indexmap.specs.IndexMap.{insert_entry}
use Rattle.kx_ordered.specs.KeyPlaces.{Respects, place_in, with_value}

inside : {X : Type 0} {x y : X} → Some x ≡ Some y → x ≡ y
inside {X} {x} e = ap (λ o. unwrap_or o x) e

pub no_some : {X : Type 0} {x : X} → None ≡ Some x → ⊥
no_some e = true≢false (sym (ap is_some e))

pub on_ok : {A E P Q : Type 0} (r : Result A E) → (P → Q) → OnOk r P → OnOk r Q
on_ok (Ok a) f holds = f holds
on_ok (Err e) f holds = tt

module _ {K V : Type 0} (test : K → Bool) where
  placed_from : (n : ℕ) (es : List (K × V)) → position_from test n (keys_of es) ≡ option_map (λ i. n + i) (place_in test es)
  placed_from n [] = refl
  placed_from n (e ∷ es) = by (test e.0) (place_in test es) (placed_from (n + 1) es)
    where
      here : Some n ≡ Some (n + 0)
      here = let e : n ≡ n + 0 = omega arith in ap Some e

      later : (i : ℕ) → Some (n + 1 + i) ≡ Some (n + suc i)
      later i = let e : n + 1 + i ≡ n + suc i = omega arith in ap Some e

      by : (b : Bool) (o : Option ℕ) → position_from test (n + 1) (keys_of es) ≡ option_map (λ i. n + 1 + i) o
          → cond b (Some n) (position_from test (n + 1) (keys_of es)) ≡ option_map (λ i. n + i) (cond b (Some 0) (option_map suc o))
      by true o h = here
      by false None h = h
      by false (Some i) h = h ∙ later i

  -- the place among the keys is the place among the entries
  pub place_is : (es : List (K × V)) → position test (keys_of es) ≡ place_in test es
  place_is es = position_from-zero test (keys_of es) ∙ placed_from 0 es ∙ same (place_in test es)
    where
      zero_more : (i : ℕ) → 0 + i ≡ i
      zero_more i = omega arith

      same : (o : Option ℕ) → option_map (λ i. 0 + i) o ≡ o
      same None = refl
      same (Some i) = ap Some (zero_more i)

  pub missing : (es : List (K × V)) → place_in test es ≡ None → lookup test es ≡ None
  missing [] p = refl
  missing (e ∷ es) p = by (test e.0) (place_in test es) (missing es) p
    where
      by : (b : Bool) (o : Option ℕ) → (o ≡ None → lookup test es ≡ None) → cond b (Some 0) (option_map suc o) ≡ None → cond b (Some e.1) (lookup test es) ≡ None
      by true o rest p = absurd (no_some (sym p))
      by false None rest p = rest refl
      by false (Some i) rest p = absurd (no_some (sym p))

  pub unplaced : (es : List (K × V)) → lookup test es ≡ None → place_in test es ≡ None
  unplaced [] none = refl
  unplaced (e ∷ es) none = by (test e.0) (unplaced es) none
    where
      by : (b : Bool) → (lookup test es ≡ None → place_in test es ≡ None) → cond b (Some e.1) (lookup test es) ≡ None → cond b (Some 0) (option_map suc (place_in test es)) ≡ None
      by true rest none = absurd (no_some (sym none))
      by false rest none = ap (option_map suc) (rest none)

  pub found : (es : List (K × V)) (i : ℕ) → place_in test es ≡ Some i → lookup test es ≡ option_map (λ e. e.1) (slice_get es i)
  found [] i p = absurd (no_some p)
  found (x ∷ xs) i p = by (test x.0) (place_in test xs) i (found xs) p
    where
      by : (b : Bool) (o : Option ℕ) (i : ℕ) → ((i : ℕ) → o ≡ Some i → lookup test xs ≡ option_map (λ e. e.1) (slice_get xs i)) → cond b (Some 0) (option_map suc o) ≡ Some i → cond b (Some x.1) (lookup test xs) ≡ option_map (λ e. e.1) (slice_get (x ∷ xs) i)
      by true o i rest p = ap (λ n. option_map (λ e. e.1) (slice_get (x ∷ xs) n)) (inside p)
      by false None i rest p = absurd (no_some p)
      by false (Some j) i rest p = rest j refl ∙ ap (λ n. option_map (λ e. e.1) (slice_get (x ∷ xs) n)) (inside p)

  -- one more after the others
  pub place_more : (es : List (K × V)) (e : K × V) → place_in test (es ++ e ∷ []) ≡ option_or (place_in test es) (cond (test e.0) (Some (length es)) None)
  place_more [] e = refl
  place_more (x ∷ xs) e = by (test x.0) (test e.0) (place_in test xs) (place_more xs e)
    where
      by : (b c : Bool) (o : Option ℕ) → place_in test (xs ++ e ∷ []) ≡ option_or o (cond c (Some (length xs)) None)
          → cond b (Some 0) (option_map suc (place_in test (xs ++ e ∷ []))) ≡ option_or (cond b (Some 0) (option_map suc o)) (cond c (Some (suc (length xs))) None)
      by true c o rest = refl
      by false true None rest = ap (option_map suc) rest
      by false false None rest = ap (option_map suc) rest
      by false c (Some i) rest = ap (option_map suc) rest

  pub place_kept : (es : List (K × V)) (i : ℕ) (w : V) → place_in test (with_value es i w) ≡ place_in test es
  place_kept [] i w = refl
  place_kept (e ∷ es) zero w = refl
  place_kept (e ∷ es) (suc i) w = ap (λ o. cond (test e.0) (Some 0) (option_map suc o)) (place_kept es i w)

later_apart : {K V : Type 0} (test : K → Bool) (es : List (K × V)) (i : ℕ) (k : K) (v : V) → AllByRecursion (λ y. test y ≡ false) (keys_of es) → slice_get es i ≡ Some (k, v) → test k ≡ false
later_apart test [] i k v apart h = absurd (no_some h)
later_apart test (e ∷ es) zero k v apart h = ap (λ p. test p.0) (sym (inside h)) ∙ apart.0
later_apart test (e ∷ es) (suc i) k v apart h = later_apart test es i k v apart.1 h

-- the key of an entry stands where the entry does
pub place_from : {K V : Type 0} {eq : K → K → Bool} → IsEquivalence eq → (es : List (K × V)) (i : ℕ) (k : K) (v : V) → IsDistinct eq (keys_of es) → slice_get es i ≡ Some (k, v) → place_in (eq k) es ≡ Some i
place_from o [] i k v d h = absurd (no_some h)
place_from {eq = eq} o (e ∷ es) zero k v d h = ap (λ b. cond b (Some 0) (option_map suc (place_in (eq k) es))) (ap (λ p. eq k p.0) (inside h) ∙ o.refl k)
place_from {eq = eq} o (e ∷ es) (suc i) k v d h =
    let other : eq k e.0 ≡ false = o.symm k e.0 ∙ later_apart (eq e.0) es i k v (IsDistinct-head eq e.0 (keys_of es) d) h in
    ap (λ b. cond b (Some 0) (option_map suc (place_in (eq k) es))) other ∙ ap (option_map suc) (place_from o es i k v (IsDistinct-tail eq e.0 (keys_of es) d) h)

-- where keys that are equal are those that `cmp` doesn't tell apart
pub by_order : {K V : Type 0} (eq : K → K → Bool) (cmp : K → K → Ordering) → ((x y : K) → eq x y ≡ is_eq (cmp x y)) → (k : K) (es : List (K × V)) → place_in (is_at (cmp k)) es ≡ place_in (eq k) es
by_order eq cmp matches k es = ap (λ test. place_in test es) (λ i x. sym (matches k x) i)

pub is_equal : (r : Ordering) → is_eq r ≡ true → r ≡ Equal
is_equal Less h = absurd (true≢false (sym h))
is_equal Equal h = refl
is_equal Greater h = absurd (true≢false (sym h))

both_ways : (a b : Bool) → (a ≡ true → b ≡ true) → (b ≡ true → a ≡ true) → a ≡ b
both_ways true b f g = sym (f refl)
both_ways false true f g = g refl
both_ways false false f g = refl

module _ {K : Type 0} (cmp : K → K → Ordering) (order : IsTotalOrder cmp) (compare : K → Ordering) (respects : Respects cmp compare) where
  -- a key that is not among the others has no place among them by what it is equal to
  pub absent : {V : Type 0} (es : List (K × V)) (k : K) → place_in (is_at (cmp k)) es ≡ None → is_at compare k ≡ true → place_in (is_at compare) es ≡ None
  absent es k none h = ap (λ test. place_in test es) (λ i x. is_eq (respects k x (is_equal (compare k) h) i)) ∙ none

  -- what is put after the others, whose key is not among them
  pub place_pushed : {V : Type 0} (es : List (K × V)) (e : K × V) → place_in (is_at (cmp e.0)) es ≡ None → cond (is_at compare e.0) (Some (length es)) (place_in (is_at compare) es) ≡ place_in (is_at compare) (es ++ e ∷ [])
  place_pushed es e none = by (is_at compare e.0) refl ∙ sym (place_more (is_at compare) es e)
    where
      kept : (o : Option ℕ) → o ≡ option_or o None
      kept None = refl
      kept (Some i) = refl

      by : (b : Bool) → is_at compare e.0 ≡ b → cond b (Some (length es)) (place_in (is_at compare) es) ≡ option_or (place_in (is_at compare) es) (cond b (Some (length es)) None)
      by true h = sym (ap (λ o. option_or o (Some (length es))) (absent es e.0 none h))
      by false h = kept (place_in (is_at compare) es)

  match-look : {V : Type 0} (r : Ordering) (xs ys zs : List (K × V)) → lookup (is_at compare) (match_ordering r xs ys zs) ≡ match_ordering r (lookup (is_at compare) xs) (lookup (is_at compare) ys) (lookup (is_at compare) zs)
  match-look Less xs ys zs = refl
  match-look Equal xs ys zs = refl
  match-look Greater xs ys zs = refl

  -- what is looked up once a key is put
  pub look_put : {V : Type 0} (es : List (K × V)) (k : K) (v : V) → lookup (is_at compare) (tree.insert_entry cmp es k v) ≡ cond (is_at compare k) (Some v) (lookup (is_at compare) es)
  look_put [] k v = refl
  look_put {V} (e ∷ es) k v =
      match-look (cmp k e.0) ((k, v) ∷ e ∷ es) ((e.0, v) ∷ es) (e ∷ tree.insert_entry cmp es k v)
      ∙ by (cmp k e.0) (is_at compare k) (is_at compare e.0) alike both (lookup (is_at compare) (tree.insert_entry cmp es k v)) (look_put es k v)
    where
      alike : is_eq (cmp k e.0) ≡ true → is_at compare k ≡ is_at compare e.0
      alike h = both_ways (is_at compare k) (is_at compare e.0)
          (λ one. ap is_eq (respects k e.0 (is_equal (compare k) one) ∙ is_equal (cmp k e.0) h))
          (λ other. ap is_eq (respects e.0 k (is_equal (compare e.0) other) ∙ tied_back order k e.0 (is_equal (cmp k e.0) h)))

      both : is_at compare k ≡ true → is_at compare e.0 ≡ true → is_eq (cmp k e.0) ≡ true
      both one other = ap is_eq (sym (respects k e.0 (is_equal (compare k) one)) ∙ is_equal (compare e.0) other)

      rest : Option V
      rest = lookup (is_at compare) es

      by : (r : Ordering) (tk te : Bool) → (is_eq r ≡ true → tk ≡ te) → (tk ≡ true → te ≡ true → is_eq r ≡ true) → (o : Option V) → o ≡ cond tk (Some v) rest
          → match_ordering r (cond tk (Some v) (cond te (Some e.1) rest)) (cond te (Some v) rest) (cond te (Some e.1) o) ≡ cond tk (Some v) (cond te (Some e.1) rest)
      by Less tk te p q o is = refl
      by Equal true true p q o is = refl
      by Equal true false p q o is = absurd (true≢false (p refl))
      by Equal false true p q o is = absurd (true≢false (sym (p refl)))
      by Equal false false p q o is = refl
      by Greater true true p q o is = absurd (true≢false (sym (q refl refl)))
      by Greater true false p q o is = is
      by Greater false true p q o is = refl
      by Greater false false p q o is = is

  -- the same, where an equal key is put
  pub look_again : {V : Type 0} (es : List (K × V)) (k again : K) (v : V) → cmp again k ≡ Equal → lookup (is_at compare) (tree.insert_entry cmp es again v) ≡ cond (is_at compare k) (Some v) (lookup (is_at compare) es)
  look_again es k again v same = look_put es again v ∙ ap (λ b. cond b (Some v) (lookup (is_at compare) es)) (both_ways (is_at compare again) (is_at compare k)
      (λ one. ap is_eq (respects again k (is_equal (compare again) one) ∙ same))
      (λ other. ap is_eq (respects k again (is_equal (compare k) other) ∙ tied_back order again k same)))

-- what is looked up, where one more stands after whose key is not among the others
module _ {K V : Type 0} (eq : K → K → Bool) (laws : IsEquivalence eq) where
  looked_more : (test : K → Bool) (es : List (K × V)) (e : K × V) → lookup test (es ++ e ∷ []) ≡ option_or (lookup test es) (cond (test e.0) (Some e.1) None)
  looked_more test [] e = refl
  looked_more test (x ∷ xs) e = by (test x.0) (looked_more test xs e)
    where
      by : (b : Bool) → lookup test (xs ++ e ∷ []) ≡ option_or (lookup test xs) (cond (test e.0) (Some e.1) None) → cond b (Some x.1) (lookup test (xs ++ e ∷ [])) ≡ option_or (cond b (Some x.1) (lookup test xs)) (cond (test e.0) (Some e.1) None)
      by true rest = refl
      by false rest = rest

  pub looked_pushed : (es : List (K × V)) (e : K × V) → lookup (eq e.0) es ≡ None → (q : K) → lookup (eq q) (es ++ e ∷ []) ≡ cond (eq e.0 q) (Some e.1) (lookup (eq q) es)
  looked_pushed es e none q = looked_more (eq q) es e ∙ by (eq e.0 q) (eq q e.0) refl (laws.symm e.0 q)
    where
      absent : eq e.0 q ≡ true → lookup (eq q) es ≡ None
      absent h = ap (λ test. lookup test es) (λ i x. sym (laws.congr e.0 q x h) i) ∙ none

      kept : (o : Option V) → option_or o None ≡ o
      kept None = refl
      kept (Some v) = refl

      by : (b c : Bool) → eq e.0 q ≡ b → b ≡ c → option_or (lookup (eq q) es) (cond c (Some e.1) None) ≡ cond b (Some e.1) (lookup (eq q) es)
      by true true h same = ap (λ o. option_or o (Some e.1)) (absent h)
      by true false h same = absurd (true≢false same)
      by false true h same = absurd (true≢false (sym same))
      by false false h same = kept (lookup (eq q) es)

pub distinct_none : {K : Type 0} (eq : K → K → Bool) → IsDistinct eq []
unfolding IsDistinct
distinct_none eq = tt

-- keys that are apart stay so
module _ {K V : Type 0} (eq : K → K → Bool) (laws : IsEquivalence eq) where
  apart_more : (x : K) (es : List (K × V)) (e : K × V) → eq x e.0 ≡ false → AllByRecursion (λ y. eq x y ≡ false) (keys_of es) → AllByRecursion (λ y. eq x y ≡ false) (keys_of (es ++ e ∷ []))
  apart_more x [] e apart h = (apart, h)
  apart_more x (y ∷ ys) e apart h = (h.0, apart_more x ys e apart h.1)

  pub distinct_more : (es : List (K × V)) (e : K × V) → place_in (eq e.0) es ≡ None → IsDistinct eq (keys_of es) → IsDistinct eq (keys_of (es ++ e ∷ []))
  unfolding IsDistinct
  distinct_more [] e none h = (tt, h)
  distinct_more (x ∷ xs) e none h =
      let r = split (eq e.0 x.0) (place_in (eq e.0) xs) none in
      (apart_more x.0 xs e (laws.symm x.0 e.0 ∙ r.0) h.0, distinct_more xs e r.1 h.1)
    where
      split : (b : Bool) (o : Option ℕ) → cond b (Some 0) (option_map suc o) ≡ None → (b ≡ false) × (o ≡ None)
      split true o e = absurd (no_some (sym e))
      split false None e = (refl, refl)
      split false (Some i) e = absurd (no_some (sym e))

-- what is put in its key's place, or after the others
module _ {K V : Type 0} (eq : K → K → Bool) (k : K) (v : V) where
  pub insert_there : (es : List (K × V)) (i : ℕ) → place_in (eq k) es ≡ Some i → with_value es i v ≡ insert_entry eq es k v
  insert_there [] i p = absurd (no_some p)
  insert_there (e ∷ es) i p = by (eq k e.0) (place_in (eq k) es) i (insert_there es) p
    where
      by : (b : Bool) (o : Option ℕ) (i : ℕ) → ((i : ℕ) → o ≡ Some i → with_value es i v ≡ insert_entry eq es k v) → cond b (Some 0) (option_map suc o) ≡ Some i → with_value (e ∷ es) i v ≡ cond b ((e.0, v) ∷ es) (e ∷ insert_entry eq es k v)
      by true o i rest p = ap (λ n. with_value (e ∷ es) n v) (sym (inside p))
      by false None i rest p = absurd (no_some p)
      by false (Some j) i rest p = ap (λ n. with_value (e ∷ es) n v) (sym (inside p)) ∙ ap (λ fs. e ∷ fs) (rest j refl)

  pub insert_absent : (es : List (K × V)) → place_in (eq k) es ≡ None → es ++ (k, v) ∷ [] ≡ insert_entry eq es k v
  insert_absent [] p = refl
  insert_absent (e ∷ es) p = by (eq k e.0) (place_in (eq k) es) (insert_absent es) p
    where
      by : (b : Bool) (o : Option ℕ) → (o ≡ None → es ++ (k, v) ∷ [] ≡ insert_entry eq es k v) → cond b (Some 0) (option_map suc o) ≡ None → e ∷ (es ++ (k, v) ∷ []) ≡ cond b ((e.0, v) ∷ es) (e ∷ insert_entry eq es k v)
      by true o rest p = absurd (no_some (sym p))
      by false None rest p = ap (λ fs. e ∷ fs) (rest refl)
      by false (Some i) rest p = absurd (no_some (sym p))

module _ {K V : Type 0} where
  pub keys-with_value : (es : List (K × V)) (i : ℕ) (w : V) → keys_of (with_value es i w) ≡ keys_of es
  keys-with_value [] i w = refl
  keys-with_value (e ∷ es) zero w = refl
  keys-with_value (e ∷ es) (suc i) w = ap (λ ks. e.0 ∷ ks) (keys-with_value es i w)

  pub set_is : (es : List (K × V)) (i : ℕ) (k : K) (v w : V) → slice_get es i ≡ Some (k, v) → slice_set es i (k, w) ≡ with_value es i w
  set_is [] i k v w at = refl
  set_is (e ∷ es) zero k v w at = ap (λ key. (key, w) ∷ es) (sym (ap (λ x. x.0) (inside at)))
  set_is (e ∷ es) (suc i) k v w at = ap (λ rest. e ∷ rest) (set_is es i k v w at)

module _ {K V : Type 0} (eq : K → K → Bool) (laws : IsEquivalence eq) (key : K) (w : V) where
  pub written : (es : List (K × V)) (i : ℕ) → place_in (eq key) es ≡ Some i → (q : K) → lookup (eq q) (with_value es i w) ≡ cond (eq key q) (Some w) (lookup (eq q) es)
  written [] i p q = absurd (no_some p)
  written (e ∷ es) i p q = by (eq key e.0) (place_in (eq key) es) i refl (written es) p
    where
      same : eq key e.0 ≡ true → eq q e.0 ≡ eq key q
      same h = laws.symm q e.0 ∙ sym (laws.congr key e.0 q h)

      here : (b c : Bool) → b ≡ c → cond b (Some w) (lookup (eq q) es) ≡ cond c (Some w) (cond b (Some e.1) (lookup (eq q) es))
      here true true s = refl
      here true false s = absurd (true≢false s)
      here false true s = absurd (true≢false (sym s))
      here false false s = refl

      there : (b c : Bool) → (c ≡ true → b ≡ false) → cond b (Some e.1) (cond c (Some w) (lookup (eq q) es)) ≡ cond c (Some w) (cond b (Some e.1) (lookup (eq q) es))
      there true true s = absurd (true≢false (s refl))
      there true false s = refl
      there false c s = refl

      by : (b : Bool) (o : Option ℕ) (i : ℕ) → eq key e.0 ≡ b → ((i : ℕ) → o ≡ Some i → (q : K) → lookup (eq q) (with_value es i w) ≡ cond (eq key q) (Some w) (lookup (eq q) es))
          → cond b (Some 0) (option_map suc o) ≡ Some i → lookup (eq q) (with_value (e ∷ es) i w) ≡ cond (eq key q) (Some w) (lookup (eq q) (e ∷ es))
      by true o i h rest p = subst (λ n. lookup (eq q) (with_value (e ∷ es) n w) ≡ cond (eq key q) (Some w) (lookup (eq q) (e ∷ es))) (inside p) (here (eq q e.0) (eq key q) (same h))
      by false None i h rest p = absurd (no_some p)
      by false (Some j) i h rest p = subst (λ n. lookup (eq q) (with_value (e ∷ es) n w) ≡ cond (eq key q) (Some w) (lookup (eq q) (e ∷ es))) (inside p) (ap (cond (eq q e.0) (Some e.1)) (rest j refl q) ∙ there (eq q e.0) (eq key q) (λ same. sym (laws.congr key q e.0 same) ∙ h))

-- a place is that of an entry
pub within : {K V : Type 0} (test : K → Bool) (es : List (K × V)) (o : Option ℕ) → o ≡ place_in test es → IfSome o (λ i. i < length es)
within {K} {V} test es o at = subst (λ o. IfSome o (λ i. i < length es)) (sym at) (by es)
  where
    by : (es : List (K × V)) → IfSome (place_in test es) (λ i. i < length es)
    by [] = tt
    by (e ∷ es) = step (test e.0) (place_in test es) (by es)
      where
        step : (b : Bool) (o : Option ℕ) → IfSome o (λ i. i < length es) → IfSome (cond b (Some 0) (option_map suc o)) (λ i. i < suc (length es))
        step true o h = omega arith
        step false None h = tt
        step false (Some j) h = omega (arith, h)

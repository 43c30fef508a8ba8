-- What maps of pairs stand for, and what stands for what a change leaves.
use Rattle.std.proofs.Common.{◌≡◌, ℕ, ◌+◌, ◌<◌, zero, suc, length, take, get_or, arith, IsSome, Bool, true, false, cond, ◌==◌, ◌||◌, ◌&&◌, not, List, [], ◌∷◌, ◌++◌, is_some, Option, None, Some, refl, sym, ap, ◌∙◌, subst, filter, fold, nat_eq}
use Rattle.std.specs.Cmp.{unsigned_Decides}
use Rattle.std.proofs.lemmas.Bool.Decides.{Decides-eqb}
use Rattle.std.proofs.lemmas.List.Sums.{fold_more}
use Rattle.std.specs.List.{slice_get, list_any, AllByRecursion, IsDistinct}
use Rattle.std.specs.Map.{keys_of}
use Rattle.std.proofs.lemmas.Map.Keys.{IsDistinct-head, IsDistinct-tail}
use Rattle.kx_codes.specs.Codes.{coded}
use Rattle.std.specs.Option.{option_or, option_map}
use Rattle.std.specs.Str.{bytes_eq}
use Rattle.std.proofs.lemmas.Bool.{false≢true}
use Rattle.std.proofs.lemmas.Slice.Eq.{bytes_eq-Decides}
use Rattle.std.proofs.lemmas.Option.{same_Some}
use Rattle.kx_tree.specs.declared.tree.Mode.{Mode}
use Rattle.kx_tree.specs.declared.tree.Mode.TheVariants.{Augment, Override, Replace}
use Rattle.kx_codes.proofs.Distinct.{both_of, no_first, no_second, taken_distinct, all_distinct, code_of_name, name_of_code, pushed}
use Rattle.kx_codes.proofs.Matching.{Apart, unless, over, any_look, took_over, took_under, all_over, all_under, last_put, stays, option_same}
use Rattle.kx_codes.specs.Indexed.{Indexed, Stands, distinct}
use Rattle.kx_codes.specs.Pairs.{Agree, Pair, shares, without, taken, all_taken, code_in, name_in}
use Rattle.kx_merge.proofs.OnePart.{or-first, or-last}

abbrev n-of : Pair → List ℕ
n-of p = p.name

abbrev c-of : Pair → ℕ
c-of p = p.code

pub shares-split : (p : Pair) (ps : List Pair) → list_any (shares p) ps ≡ (list_any (λ q. bytes_eq p.name q.name) ps || list_any (λ q. nat_eq p.code q.code) ps)
shares-split p [] = refl
shares-split p (q ∷ qs) = by (bytes_eq p.name q.name) (nat_eq p.code q.code) (list_any (λ r. bytes_eq p.name r.name) qs) (list_any (λ r. nat_eq p.code r.code) qs) (list_any (shares p) qs) (shares-split p qs)
  where
    by : (a b x y r : Bool) → r ≡ (x || y) → ((a || b) || r) ≡ ((a || x) || (b || y))
    by true b x y r e = refl
    by false true true y r e = refl
    by false true false y r e = refl
    by false false x y r e = e

pub apart : (ps : List Pair) → distinct ps ≡ true → Apart n-of c-of bytes_eq nat_eq ps
apart [] h = tt
apart (p ∷ ps) h =
    let none = sym (shares-split p ps) ∙ no_first (list_any (shares p) ps) (distinct ps) h in
    (or-first (list_any (λ q. bytes_eq p.name q.name) ps) (list_any (λ q. nat_eq p.code q.code) ps) none, or-last (list_any (λ q. bytes_eq p.name q.name) ps) (list_any (λ q. nat_eq p.code q.code) ps) none, apart ps (no_second (list_any (shares p) ps) (distinct ps) h))

pub apart-back : (ps : List Pair) → distinct ps ≡ true → Apart c-of n-of nat_eq bytes_eq ps
apart-back [] h = tt
apart-back (p ∷ ps) h =
    let none = sym (shares-split p ps) ∙ no_first (list_any (shares p) ps) (distinct ps) h in
    (or-last (list_any (λ q. bytes_eq p.name q.name) ps) (list_any (λ q. nat_eq p.code q.code) ps) none, or-first (list_any (λ q. bytes_eq p.name q.name) ps) (list_any (λ q. nat_eq p.code q.code) ps) none, apart-back ps (no_second (list_any (shares p) ps) (distinct ps) h))

filter-cond : (t : Pair → Bool) (b : Bool) (q : Pair) (xs : List Pair) → filter t (cond b (q ∷ xs) xs) ≡ cond b (cond (t q) (q ∷ filter t xs) (filter t xs)) (filter t xs)
filter-cond t true q xs = refl
filter-cond t false q xs = refl

filter-both : (s t : Pair → Bool) (ps : List Pair) → filter (λ q. not (s q || t q)) ps ≡ filter (λ q. not (t q)) (filter (λ q. not (s q)) ps)
filter-both s t [] = refl
filter-both s t (q ∷ qs) = by (s q) (t q) (filter (λ r. not (s r || t r)) qs) (filter-both s t qs) ∙ sym (filter-cond (λ r. not (t r)) (not (s q)) q (filter (λ r. not (s r)) qs))
  where
    by : (a b : Bool) (xs : List Pair) → xs ≡ filter (λ r. not (t r)) (filter (λ r. not (s r)) qs)
        → cond (not (a || b)) (q ∷ xs) xs ≡ cond (not a) (cond (not b) (q ∷ filter (λ r. not (t r)) (filter (λ r. not (s r)) qs)) (filter (λ r. not (t r)) (filter (λ r. not (s r)) qs))) (filter (λ r. not (t r)) (filter (λ r. not (s r)) qs))
    by true b xs e = e
    by false true xs e = e
    by false false xs e = ap (λ ys. q ∷ ys) e

filter-swap : (s t : Pair → Bool) (ps : List Pair) → filter (λ q. not (s q || t q)) ps ≡ filter (λ q. not (s q)) (filter (λ q. not (t q)) ps)
filter-swap s t [] = refl
filter-swap s t (q ∷ qs) = by (s q) (t q) (filter (λ r. not (s r || t r)) qs) (filter-swap s t qs) ∙ sym (filter-cond (λ r. not (s r)) (not (t q)) q (filter (λ r. not (t r)) qs))
  where
    by : (a b : Bool) (xs : List Pair) → xs ≡ filter (λ r. not (s r)) (filter (λ r. not (t r)) qs)
        → cond (not (a || b)) (q ∷ xs) xs ≡ cond (not b) (cond (not a) (q ∷ filter (λ r. not (s r)) (filter (λ r. not (t r)) qs)) (filter (λ r. not (s r)) (filter (λ r. not (t r)) qs))) (filter (λ r. not (s r)) (filter (λ r. not (t r)) qs))
    by true true xs e = e
    by true false xs e = e
    by false true xs e = e
    by false false xs e = ap (λ ys. q ∷ ys) e

abbrev pub over-step : List Pair → Pair → List Pair
over-step ps p = without p ps ++ p ∷ []

abbrev under-step : List Pair → Pair → List Pair
under-step ps p = cond (list_any (shares p) ps) ps (ps ++ p ∷ [])

pub over-codes : (ps : List Pair) (p : Pair) (name : List ℕ) → distinct ps ≡ true → code_in (over-step ps p) name ≡ cond (bytes_eq name p.name) (Some p.code) (unless (nat_eq p.code) (code_in ps name))
over-codes ps p name h = took_over n-of c-of bytes_eq nat_eq bytes_eq-Decides unsigned_Decides ps (without p ps) p name (filter-swap (λ q. bytes_eq p.name q.name) (λ q. nat_eq p.code q.code) ps) (apart ps h)

pub over-names : (ps : List Pair) (p : Pair) (code : ℕ) → distinct ps ≡ true → name_in (over-step ps p) code ≡ cond (nat_eq code p.code) (Some p.name) (unless (bytes_eq p.name) (name_in ps code))
over-names ps p code h = took_over c-of n-of nat_eq bytes_eq unsigned_Decides bytes_eq-Decides ps (without p ps) p code (filter-both (λ q. bytes_eq p.name q.name) (λ q. nat_eq p.code q.code) ps) (apart-back ps h)

or-flip : (a b : Bool) → (a || b) ≡ (b || a)
or-flip true true = refl
or-flip true false = refl
or-flip false true = refl
or-flip false false = refl

any-either : (ps : List Pair) (p : Pair) → list_any (shares p) ps ≡ (is_some (code_in ps p.name) || is_some (name_in ps p.code))
any-either ps p =
    shares-split p ps
    ∙ ap (λ b. b || list_any (λ q. nat_eq p.code q.code) ps) (any_look n-of c-of bytes_eq nat_eq bytes_eq-Decides unsigned_Decides ps p.name)
    ∙ ap (λ b. is_some (code_in ps p.name) || b) (any_look c-of n-of nat_eq bytes_eq unsigned_Decides bytes_eq-Decides ps p.code)

under-codes : (ps : List Pair) (p : Pair) (name : List ℕ) → code_in (under-step ps p) name ≡ option_or (code_in ps name) (cond (bytes_eq name p.name) (cond (is_some (name_in ps p.code)) None (Some p.code)) None)
under-codes ps p name = took_under n-of c-of bytes_eq nat_eq bytes_eq-Decides unsigned_Decides ps p name (list_any (shares p) ps) (any-either ps p)

under-names : (ps : List Pair) (p : Pair) (code : ℕ) → name_in (under-step ps p) code ≡ option_or (name_in ps code) (cond (nat_eq code p.code) (cond (is_some (code_in ps p.name)) None (Some p.name)) None)
under-names ps p code = took_under c-of n-of nat_eq bytes_eq unsigned_Decides bytes_eq-Decides ps p code (list_any (shares p) ps) (any-either ps p ∙ or-flip (is_some (code_in ps p.name)) (is_some (name_in ps p.code)))

-- what others leave is the same in any order of theirs
module _ (ps vs qs : List Pair) (dv : distinct vs ≡ true) (dq : distinct qs ≡ true) (codes : (name : List ℕ) → code_in vs name ≡ code_in qs name) (names : (code : ℕ) → name_in vs code ≡ name_in qs code) where
  over-order-codes : distinct ps ≡ true → (name : List ℕ) → code_in (fold over-step ps vs) name ≡ code_in (fold over-step ps qs) name
  over-order-codes dp name =
      all_over n-of c-of bytes_eq nat_eq bytes_eq-Decides unsigned_Decides over-step (λ xs. distinct xs ≡ true) (taken_distinct Override) over-codes ps vs name dp (apart vs dv)
      ∙ (λ i. over (codes name i) (λ b. is_some (names b i)) (code_in ps name))
      ∙ sym (all_over n-of c-of bytes_eq nat_eq bytes_eq-Decides unsigned_Decides over-step (λ xs. distinct xs ≡ true) (taken_distinct Override) over-codes ps qs name dp (apart qs dq))

  over-order-names : distinct ps ≡ true → (code : ℕ) → name_in (fold over-step ps vs) code ≡ name_in (fold over-step ps qs) code
  over-order-names dp code =
      all_over c-of n-of nat_eq bytes_eq unsigned_Decides bytes_eq-Decides over-step (λ xs. distinct xs ≡ true) (taken_distinct Override) over-names ps vs code dp (apart-back vs dv)
      ∙ (λ i. over (names code i) (λ b. is_some (codes b i)) (name_in ps code))
      ∙ sym (all_over c-of n-of nat_eq bytes_eq unsigned_Decides bytes_eq-Decides over-step (λ xs. distinct xs ≡ true) (taken_distinct Override) over-names ps qs code dp (apart-back qs dq))

  under-order-codes : (name : List ℕ) → code_in (fold under-step ps vs) name ≡ code_in (fold under-step ps qs) name
  under-order-codes name =
      all_under n-of c-of bytes_eq nat_eq bytes_eq-Decides unsigned_Decides under-step under-codes under-names ps vs name (apart vs dv)
      ∙ (λ i. option_or (code_in ps name) (unless (λ b. is_some (name_in ps b)) (codes name i)))
      ∙ sym (all_under n-of c-of bytes_eq nat_eq bytes_eq-Decides unsigned_Decides under-step under-codes under-names ps qs name (apart qs dq))

  under-order-names : (code : ℕ) → name_in (fold under-step ps vs) code ≡ name_in (fold under-step ps qs) code
  under-order-names code =
      all_under c-of n-of nat_eq bytes_eq unsigned_Decides bytes_eq-Decides under-step under-names under-codes ps vs code (apart-back vs dv)
      ∙ (λ i. option_or (name_in ps code) (unless (λ b. is_some (code_in ps b)) (names code i)))
      ∙ sym (all_under c-of n-of nat_eq bytes_eq unsigned_Decides bytes_eq-Decides under-step under-names under-codes ps qs code (apart-back qs dq))

  order-codes : (mode : Mode) → distinct ps ≡ true → (name : List ℕ) → code_in (all_taken mode ps vs) name ≡ code_in (all_taken mode ps qs) name
  order-codes Augment dp = under-order-codes
  order-codes Override dp = over-order-codes dp
  order-codes Replace dp = over-order-codes dp

  order-names : (mode : Mode) → distinct ps ≡ true → (code : ℕ) → name_in (all_taken mode ps vs) code ≡ name_in (all_taken mode ps qs) code
  order-names Augment dp = under-order-names
  order-names Override dp = over-order-names dp
  order-names Replace dp = over-order-names dp

  pub order_stands : (mode : Mode) (x : Indexed) → distinct ps ≡ true → Stands x (all_taken mode ps vs) → Stands x (all_taken mode ps qs)
  order_stands mode x dp s = record {
    distinct_are = all_distinct mode ps qs dp;
    codes_are = λ name. s.codes_are name ∙ order-codes mode dp name;
    names_are = λ code. s.names_are code ∙ order-names mode dp code;
  }

-- pairs by name and by code that stand for a list of pairs agree
pub agreed : (x : Indexed) (ps : List Pair) → Stands x ps → Agree x.by_name x.by_code
agreed x ps s name code = (
  λ h. s.names_are code ∙ name_of_code ps code name s.distinct_are (sym (s.codes_are name) ∙ h),
  λ h. s.codes_are name ∙ code_of_name ps code name s.distinct_are (sym (s.names_are code) ∙ h),
)

-- what shares something, and what the removals and the insertion of a pair leave
pub sharing : (x : Indexed) (ps : List Pair) (name : List ℕ) (code : ℕ) → Stands x ps → list_any (shares (record { name = name; code = code })) ps ≡ (is_some (code_in x.by_name name) || is_some (name_in x.by_code code))
sharing x ps name code s = any-either ps (record { name = name; code = code }) ∙ sym (λ i. is_some (s.codes_are name i) || is_some (s.names_are code i))

module _ (x y : Indexed) where
  pub inserted : (name : List ℕ) (code : ℕ) → ((n : List ℕ) → code_in y.by_name n ≡ cond (bytes_eq name n) (Some code) (code_in x.by_name n)) → ((c : ℕ) → name_in y.by_code c ≡ cond (nat_eq code c) (Some name) (name_in x.by_code c))
      → (ps : List Pair) → Stands x ps → list_any (shares (record { name = name; code = code })) ps ≡ false → Stands y (ps ++ record { name = name; code = code } ∷ [])
  inserted name code codes names ps s none =
      let p : Pair = record { name = name; code = code } in
      let neither = sym (shares-split p ps) ∙ none in
      record {
        distinct_are = pushed ps p s.distinct_are none;
        codes_are = λ n. codes n ∙ ap (cond (bytes_eq name n) (Some code)) (s.codes_are n)
            ∙ last_put n-of c-of bytes_eq nat_eq bytes_eq-Decides unsigned_Decides ps p n (or-first (list_any (λ q. bytes_eq name q.name) ps) (list_any (λ q. nat_eq code q.code) ps) neither);
        names_are = λ c. names c ∙ ap (cond (nat_eq code c) (Some name)) (s.names_are c)
            ∙ last_put c-of n-of nat_eq bytes_eq unsigned_Decides bytes_eq-Decides ps p c (or-last (list_any (λ q. bytes_eq name q.name) ps) (list_any (λ q. nat_eq code q.code) ps) neither);
      }

-- under augment, where one shares something
pub kept_under : (mode : Mode) (x : Indexed) (ps : List Pair) (p : Pair) → mode ≡ Augment → list_any (shares p) ps ≡ true → Stands x ps → Stands x (taken mode ps p)
kept_under mode x ps p is some s = subst (λ m. Stands x (taken m ps p)) (sym is) (subst (λ b. Stands x (cond b ps (ps ++ p ∷ []))) (sym some) s)

-- where none shares anything
without-none : (p : Pair) (ps : List Pair) → list_any (shares p) ps ≡ false → without p ps ≡ ps
without-none p [] h = refl
without-none p (q ∷ qs) h = by (shares p q) (or-first (shares p q) (list_any (shares p) qs) h) (without-none p qs (or-last (shares p q) (list_any (shares p) qs) h))
  where
    by : (b : Bool) → b ≡ false → without p qs ≡ qs → cond (not b) (q ∷ without p qs) (without p qs) ≡ q ∷ qs
    by true e rest = absurd (false≢true (sym e))
    by false e rest = ap (λ xs. q ∷ xs) rest

pub put_new : (mode : Mode) (y : Indexed) (ps : List Pair) (p : Pair) → list_any (shares p) ps ≡ false → Stands y (ps ++ p ∷ []) → Stands y (taken mode ps p)
put_new Augment y ps p none s = subst (λ b. Stands y (cond b ps (ps ++ p ∷ []))) (sym none) s
put_new Override y ps p none s = subst (λ qs. Stands y (qs ++ p ∷ [])) (sym (without-none p ps none)) s
put_new Replace y ps p none s = subst (λ qs. Stands y (qs ++ p ∷ [])) (sym (without-none p ps none)) s

-- maps of which the keys are distinct hold distinct pairs, where each name has one code
none-coded : (es : List (ℕ × List ℕ)) (k : ℕ) → AllByRecursion (λ y. nat_eq k y ≡ false) (keys_of es) → list_any (λ q. nat_eq k q.code) (coded es) ≡ false
none-coded [] k h = refl
none-coded (e ∷ es) k h = ap (λ b. b || list_any (λ q. nat_eq k q.code) (coded es)) h.0 ∙ none-coded es k h.1

lifted : (es : List (ℕ × List ℕ)) (k : ℕ) (m n : List ℕ) (c : ℕ) → list_any (λ q. nat_eq k q.code) (coded es) ≡ false → name_in (coded es) c ≡ Some n → cond (nat_eq c k) (Some m) (name_in (coded es) c) ≡ Some n
lifted es k m n c none h = by (nat_eq c k) (λ e. ap (λ x. list_any (λ q. nat_eq x q.code) (coded es)) ((unsigned_Decides c k).0 e) ∙ none)
  where
    by : (b : Bool) → (b ≡ true → list_any (λ q. nat_eq c q.code) (coded es) ≡ false) → cond b (Some m) (name_in (coded es) c) ≡ Some n
    by true gone = absurd (false≢true (sym (gone refl) ∙ any_look c-of n-of nat_eq bytes_eq unsigned_Decides bytes_eq-Decides (coded es) c ∙ ap is_some h))
    by false gone = h

keys-distinct : (es : List (ℕ × List ℕ)) → IsDistinct nat_eq (keys_of es) → ((c d : ℕ) (n : List ℕ) → name_in (coded es) c ≡ Some n → name_in (coded es) d ≡ Some n → c ≡ d) → distinct (coded es) ≡ true
keys-distinct [] u one = refl
keys-distinct (e ∷ es) u one =
    let none = none-coded es e.0 (IsDistinct-head nat_eq e.0 (keys_of es) u) in
    let lift = λ (c : ℕ) (n : List ℕ) (h : name_in (coded es) c ≡ Some n). lifted es e.0 e.1 n c none h in
    let rest = keys-distinct es (IsDistinct-tail nat_eq e.0 (keys_of es) u) (λ c d n h k. one c d n (lift c n h) (lift d n k)) in
    head none rest (λ c h. one c e.0 e.1 (lift c e.1 h) (ap (λ b. cond b (Some e.1) (name_in (coded es) e.0)) ((unsigned_Decides e.0 e.0).1 refl)))
  where
    head : list_any (λ q. nat_eq e.0 q.code) (coded es) ≡ false → distinct (coded es) ≡ true → ((c : ℕ) → name_in (coded es) c ≡ Some e.1 → c ≡ e.0) → distinct (coded (e ∷ es)) ≡ true
    head none rest one = both (code_in (coded es) e.1) refl
      where
        p : Pair
        p = record { name = e.1; code = e.0 }

        both : (o : Option ℕ) → code_in (coded es) e.1 ≡ o → (not (list_any (shares p) (coded es)) && distinct (coded es)) ≡ true
        both None at = both_of (list_any (shares p) (coded es)) (distinct (coded es)) (shares-split p (coded es) ∙ ap (λ b. b || list_any (λ q. nat_eq e.0 q.code) (coded es)) (any_look n-of c-of bytes_eq nat_eq bytes_eq-Decides unsigned_Decides (coded es) e.1 ∙ ap is_some at) ∙ none) rest
        both (Some c) at =
            let named_c = name_of_code (coded es) c e.1 rest at in
            absurd (false≢true (sym none ∙ ap (λ x. list_any (λ q. nat_eq x q.code) (coded es)) (sym (one c named_c)) ∙ any_look c-of n-of nat_eq bytes_eq unsigned_Decides bytes_eq-Decides (coded es) c ∙ ap is_some named_c))

-- taking the entries of a map of others
pub all_stand : (es : List (ℕ × List ℕ)) → IsDistinct nat_eq (keys_of es) → (mode : Mode) (x g : Indexed) → coded es ≡ g.by_code → (ps qs : List Pair) → distinct ps ≡ true → Stands g qs → Stands x (all_taken mode ps g.by_code) → Stands x (all_taken mode ps qs)
all_stand es u mode x g is ps qs dp s at =
    let names = λ (code : ℕ). ap (λ vs. name_in vs code) is ∙ s.names_are code in
    let dv = keys-distinct es u (λ c d n h k. same_Some c d (sym (code_of_name qs c n s.distinct_are (sym (names c) ∙ h)) ∙ code_of_name qs d n s.distinct_are (sym (names d) ∙ k))) in
    let codes = λ (name : List ℕ). option_same (code_in (coded es) name) (code_in qs name)
    (λ c h. code_of_name qs c name s.distinct_are (sym (names c) ∙ name_of_code (coded es) c name dv h))
    (λ c h. code_of_name (coded es) c name dv (names c ∙ name_of_code qs c name s.distinct_are h)) in
    order_stands ps (coded es) qs dv s.distinct_are codes names mode x dp (subst (λ vs. Stands x (all_taken mode ps vs)) (sym is) at)

-- the entries of a map are what it stands for by itself
pub own_stands : (es : List (ℕ × List ℕ)) → IsDistinct nat_eq (keys_of es) → (x : Indexed) → coded es ≡ x.by_code → (qs : List Pair) → Stands x qs → Stands x x.by_code
own_stands es u x is qs s =
    let names = λ (code : ℕ). ap (λ vs. name_in vs code) is ∙ s.names_are code in
    let dv = keys-distinct es u (λ c d n h k. same_Some c d (sym (code_of_name qs c n s.distinct_are (sym (names c) ∙ h)) ∙ code_of_name qs d n s.distinct_are (sym (names d) ∙ k))) in
    let codes = λ (name : List ℕ). option_same (code_in (coded es) name) (code_in qs name)
    (λ c h. code_of_name qs c name s.distinct_are (sym (names c) ∙ name_of_code (coded es) c name dv h))
    (λ c h. code_of_name (coded es) c name dv (names c ∙ name_of_code qs c name s.distinct_are h)) in
    subst (Stands x) is (record {
      distinct_are = dv;
      codes_are = λ name. s.codes_are name ∙ sym (codes name);
      names_are = λ code. ap (λ vs. name_in vs code) (sym is);
    })

pub within_at : (vs : List Pair) (i : ℕ) (p : Pair) → slice_get vs i ≡ Some p → i < length vs
within_at [] i p h = absurd (false≢true (ap is_some h))
within_at (v ∷ vs) zero p h = omega arith
within_at (v ∷ vs) (suc i) p h = omega (arith, within_at vs i p h)

pub got_at : (vs : List Pair) (i : ℕ) (p : Pair) → slice_get vs i ≡ Some p → get_or vs i p ≡ p
got_at [] i p h = refl
got_at (v ∷ vs) zero p h = same_Some v p h
got_at (v ∷ vs) (suc i) p h = got_at vs i p h

pub none_at : (es : List (ℕ × List ℕ)) (i : ℕ) → slice_get es i ≡ None → (p : Pair) → slice_get (coded es) i ≡ Some p → ⊥
none_at [] i h p is = false≢true (ap is_some is)
none_at (e ∷ es) zero h p is = false≢true (ap is_some (sym h))
none_at (e ∷ es) (suc i) h p is = none_at es i h p is

-- the code of an entry has a name
pub named_at : (es : List (ℕ × List ℕ)) (i code : ℕ) (name : List ℕ) → slice_get es i ≡ Some (code, name) → IsSome (name_in (coded es) code)
named_at [] i code name h = absurd (false≢true (ap is_some h))
named_at (e ∷ es) zero code name h = subst (λ b. IsSome (cond b (Some e.1) (name_in (coded es) code))) (sym ((unsigned_Decides code e.0).1 (ap (λ x. x.0) (sym (same_Some e (code, name) h))))) refl
named_at (e ∷ es) (suc i) code name h = by (nat_eq code e.0) (named_at es i code name h)
  where
    by : (b : Bool) → IsSome (name_in (coded es) code) → IsSome (cond b (Some e.1) (name_in (coded es) code))
    by true rest = refl
    by false rest = rest

-- the steps of the loop over others
pub next_taken : (mode : Mode) (x : Indexed) (ps vs : List Pair) (i : ℕ) (p : Pair) → slice_get vs i ≡ Some p → Stands x (taken mode (all_taken mode ps (take i vs)) p) → Stands x (all_taken mode ps (take (i + 1) vs))
next_taken mode x ps vs i p is s =
    subst (λ qs. Stands x qs) (sym (fold_more (taken mode) ps vs i p (within_at vs i p is) ∙ ap (taken mode (all_taken mode ps (take i vs))) (got_at vs i p is))) s

pub some_at : (vs : List Pair) (i : ℕ) → i < length vs → (p : Pair) × (slice_get vs i ≡ Some p)
some_at [] i h = absurd (omega (arith, h))
some_at (v ∷ vs) zero h = (v, refl)
some_at (v ∷ vs) (suc i) h = some_at vs i (omega (arith, h))

pub length-coded : (es : List (ℕ × List ℕ)) → length (coded es) ≡ length es
length-coded [] = refl
length-coded (e ∷ es) = ap suc (length-coded es)

pub coded_at : (es : List (ℕ × List ℕ)) (i : ℕ) (c : ℕ) (n : List ℕ) → slice_get es i ≡ Some (c, n) → slice_get (coded es) i ≡ Some (record { name = n; code = c })
coded_at [] i c n h = absurd (false≢true (ap is_some h))
coded_at (e ∷ es) zero c n h = ap (λ o. option_map {U = Pair} (λ x. record { name = x.1; code = x.0 }) o) h
coded_at (e ∷ es) (suc i) c n h = coded_at es i c n h

-- a pair that is there already
pub same_pair : (mode : Mode) (x : Indexed) (ps : List Pair) (p : Pair) → code_in x.by_name p.name ≡ Some p.code → Stands x ps → Stands x (taken mode ps p)
same_pair mode x ps p is s = by mode
  where
    there : code_in ps p.name ≡ Some p.code
    there = sym (s.codes_are p.name) ∙ is

    over-it : Stands x (over-step ps p)
    over-it = record {
      distinct_are = taken_distinct Override ps p s.distinct_are;
      codes_are = λ n. s.codes_are n ∙ stays n-of c-of bytes_eq nat_eq bytes_eq-Decides unsigned_Decides ps (apart-back ps s.distinct_are) (λ a b h. name_of_code ps b a s.distinct_are h) (λ a b h. code_of_name ps b a s.distinct_are h) p there n
          ∙ sym (over-codes ps p n s.distinct_are);
      names_are = λ c. s.names_are c ∙ stays c-of n-of nat_eq bytes_eq unsigned_Decides bytes_eq-Decides ps (apart ps s.distinct_are) (λ a b h. code_of_name ps a b s.distinct_are h) (λ a b h. name_of_code ps a b s.distinct_are h) p (name_of_code ps p.code p.name s.distinct_are there) c
          ∙ sym (over-names ps p c s.distinct_are);
    }

    by : (mode : Mode) → Stands x (taken mode ps p)
    by Augment = kept_under Augment x ps p refl (any-either ps p ∙ ap (λ o. is_some o || is_some (name_in ps p.code)) there) s
    by Override = over-it
    by Replace = over-it

-- what distinct pairs leave by themselves
over-alone : (qs : List Pair) → distinct qs ≡ true → (name : List ℕ) → code_in qs name ≡ code_in (fold over-step [] qs) name
over-alone qs d name = whole (code_in qs name) ∙ sym (all_over n-of c-of bytes_eq nat_eq bytes_eq-Decides unsigned_Decides over-step (λ xs. distinct xs ≡ true) (taken_distinct Override) over-codes [] qs name refl (apart qs d))
  where
    whole : (o : Option ℕ) → o ≡ over o (λ b. is_some (name_in qs b)) None
    whole None = refl
    whole (Some x) = refl

under-alone : (qs : List Pair) → distinct qs ≡ true → (name : List ℕ) → code_in qs name ≡ code_in (fold under-step [] qs) name
under-alone qs d name = whole (code_in qs name) ∙ sym (all_under n-of c-of bytes_eq nat_eq bytes_eq-Decides unsigned_Decides under-step under-codes under-names [] qs name (apart qs d))
  where
    whole : (o : Option ℕ) → o ≡ unless (λ b. false) o
    whole None = refl
    whole (Some x) = refl

alone-codes : (mode : Mode) (qs : List Pair) → distinct qs ≡ true → (name : List ℕ) → code_in qs name ≡ code_in (all_taken mode [] qs) name
alone-codes Augment qs d = under-alone qs d
alone-codes Override qs d = over-alone qs d
alone-codes Replace qs d = over-alone qs d

alone-names : (mode : Mode) (qs : List Pair) → distinct qs ≡ true → (code : ℕ) → name_in qs code ≡ name_in (all_taken mode [] qs) code
alone-names mode qs d code = option_same (name_in qs code) (name_in (all_taken mode [] qs) code)
    (λ n h. name_of_code (all_taken mode [] qs) code n (all_distinct mode [] qs refl) (sym (alone-codes mode qs d n) ∙ code_of_name qs code n d h))
    (λ n h. name_of_code qs code n d (alone-codes mode qs d n ∙ code_of_name (all_taken mode [] qs) code n (all_distinct mode [] qs refl) h))

pub once_stands : (mode inner : Mode) (x : Indexed) (ps qs : List Pair) → distinct ps ≡ true → distinct qs ≡ true → Stands x (all_taken mode ps qs) → Stands x (all_taken mode ps (all_taken inner [] qs))
once_stands mode inner x ps qs dp d s = order_stands ps qs (all_taken inner [] qs) d (all_distinct inner [] qs refl) (alone-codes inner qs d) (alone-names inner qs d) mode x dp s

-- taken where there are none, they are the same
stands_alone : (mode : Mode) (x : Indexed) (qs : List Pair) → Stands x qs → Stands x (all_taken mode [] qs)
stands_alone mode x qs s = record {
  distinct_are = all_distinct mode [] qs refl;
  codes_are = λ name. s.codes_are name ∙ alone-codes mode qs s.distinct_are name;
  names_are = λ code. s.names_are code ∙ alone-names mode qs s.distinct_are code;
}

absent_at : (vs : List Pair) → length vs ≡ 0 → (code : ℕ) → name_in vs code ≡ None
absent_at [] none code = refl
absent_at (v ∷ vs) none code = absurd (omega arith)

first_at : (p : Pair) (ps : List Pair) → name_in (p ∷ ps) p.code ≡ Some p.name
first_at p ps = let same : (p.code == p.code) ≡ true = (Decides-eqb p.code p.code).1 refl in rw same refl

none_stands : (x : Indexed) (ps : List Pair) → length x.by_code ≡ 0 → Stands x ps → ps ≡ []
none_stands x [] none s = refl
none_stands x (p ∷ ps) none s =
    let is : None ≡ Some p.name = sym (absent_at x.by_code none p.code) ∙ s.names_are p.code ∙ first_at p ps in
    absurd (false≢true (ap is_some is))

-- taken where nothing stands, they are the same
pub stands_first : (mode : Mode) (x given : Indexed) (ps qs : List Pair) → length x.by_code ≡ 0 → Stands x ps → Stands given qs → Stands given (all_taken mode ps qs)
stands_first mode x given ps qs none s t = subst (λ rs. Stands given (all_taken mode rs qs)) (sym (none_stands x ps none s)) (stands_alone mode given qs t)

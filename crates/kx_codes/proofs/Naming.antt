-- Pairs by the bytes of their names, one by one for those of numbers.
use Rattle.std.proofs.Common.{◌≡◌, ℕ, ◌+◌, zero, suc, Bool, true, false, cond, ◌||◌, List, [], ◌∷◌, ◌++◌, None, Some, is_some, take, refl, sym, ap, ◌∙◌, subst, nat_eq}
use Rattle.std.proofs.lemmas.Bool.{false≢true, or_from}
use Rattle.std.proofs.lemmas.List.{take_more}
use Rattle.std.proofs.lemmas.Slice.Eq.{bytes_eq-Decides}
use Rattle.std.proofs.lemmas.Option.{same_Some}
use Rattle.std.specs.Cmp.{unsigned_Decides}
use Rattle.std.specs.List.{list_any, slice_get}
use Rattle.std.specs.Str.{bytes_eq}
use Rattle.indexmap.specs.IndexMap.{insert_entry}
use Rattle.kx_codes.proofs.Entries.{flip, name_coded}
use Rattle.kx_codes.proofs.Distinct.{no_first, no_second, shares_sym}
use Rattle.kx_codes.proofs.Numbering.{name_back, numbered_push, same_any}
use Rattle.kx_codes.proofs.Standing.{got_at, shares-split, within_at}
use Rattle.kx_codes.specs.Indexed.{Indexed, Stands, distinct}
use Rattle.kx_codes.specs.Numbers.{AreNumbered, IsNumbered, IsOnce, StandsIn, number}
use Rattle.kx_codes.specs.Codes.{coded}
use Rattle.kx_codes.specs.Pairs.{Pair, shares, code_in, name_in}
use Rattle.kx_ordered.proofs.KeyPlaces.{insert_absent, unplaced}
use Rattle.kx_merge.proofs.OnePart.{or-first, or-last}

any_at : (test : Pair → Bool) (vs : List Pair) (i : ℕ) (v : Pair) → list_any test vs ≡ false → slice_get vs i ≡ Some v → test v ≡ false
any_at test [] i v h is = absurd (false≢true (ap is_some is))
any_at test (w ∷ ws) zero v h is = ap test (sym (same_Some w v is)) ∙ or-first (test w) (list_any test ws) h
any_at test (w ∷ ws) (suc i) v h is = any_at test ws i v (or-last (test w) (list_any test ws) h) is

apart_before : (vs : List Pair) (i : ℕ) (v : Pair) → distinct vs ≡ true → slice_get vs i ≡ Some v → list_any (shares v) (take i vs) ≡ false
apart_before [] i v d is = absurd (false≢true (ap is_some is))
apart_before (w ∷ ws) zero v d is = refl
apart_before (w ∷ ws) (suc i) v d is =
    or_from (shares v w) (list_any (shares v) (take i ws)) (shares_sym w v (any_at (shares w) ws i v (no_first (list_any (shares w) ws) (distinct ws) d) is))
    (apart_before ws i v (no_second (list_any (shares w) ws) (distinct ws) d) is)

name_at : (vs : List Pair) (i : ℕ) (v : Pair) → distinct vs ≡ true → slice_get vs i ≡ Some v → name_in vs v.code ≡ Some v.name
name_at [] i v d is = absurd (false≢true (ap is_some is))
name_at (w ∷ ws) zero v d is =
    ap (λ b. cond b (Some w.name) (name_in ws v.code)) (ap (nat_eq v.code) (ap (λ r. r.code) (same_Some w v is)) ∙ (unsigned_Decides v.code v.code).1 refl) ∙ ap (λ r. Some r.name) (same_Some w v is)
name_at (w ∷ ws) (suc i) v d is =
    ap (λ b. cond b (Some w.name) (name_in ws v.code)) (or-last (bytes_eq v.name w.name) (nat_eq v.code w.code) (shares_sym w v (any_at (shares w) ws i v (no_first (list_any (shares w) ws) (distinct ws) d) is)))
    ∙ name_at ws i v (no_second (list_any (shares w) ws) (distinct ws) d) is

-- one pair more
module _ (names : List (List ℕ)) (once : IsOnce names) (x old new : Indexed) (place : ℕ) (v : Pair)
    (puts : (n code : ℕ) (name : List ℕ) (ps : List Pair) → slice_get x.by_code place ≡ Some (record { name = number n; code = code }) → slice_get names n ≡ Some name → Stands old ps → list_any (shares (record { name = name; code = code })) ps ≡ false → Stands new (ps ++ record { name = name; code = code } ∷ []))
    (is : slice_get x.by_code place ≡ Some v) where
  pub one_named : (ps : List Pair) → StandsIn names x ps → Stands x x.by_code → (ns : List Pair) × AreNumbered names (take place x.by_code) ns × Stands old ns → (ns : List Pair) × AreNumbered names (take (place + 1) x.by_code) ns × Stands new ns
  one_named ps s own before =
      let vs = x.by_code in
      let back = name_back names s.numbered ps s.are v.code v.name (sym (s.stands.names_are v.code) ∙ name_at vs place v own.distinct_are is) in
      let p : Pair = record { name = back.1; code = v.code } in
      let q : Pair = record { name = number back.0; code = v.code } in
      let same : v ≡ q = ap (λ n. record { name = n; code = v.code }) back.2 in
      let a : IsNumbered names v p = record { place = back.0; number_is = back.2; name_is = back.3; code_is = refl } in
      let none = sym (same_any names once v p a (take place vs) before.0 before.1) ∙ apart_before vs place v own.distinct_are is in (
        before.0 ++ p ∷ [],
        subst (λ l. AreNumbered names l (before.0 ++ p ∷ [])) (sym (take_more vs place v (within_at vs place v is) ∙ ap (λ w. take place vs ++ w ∷ []) (got_at vs place v is))) (numbered_push names once v p a (take place vs) before.0 before.1),
        puts back.0 v.code back.1 before.0 (is ∙ ap Some same) back.3 before.2 none,
      )

-- ---- A pair that shares nothing with others

absent : (name : List ℕ) (ps : List Pair) → list_any (λ q. bytes_eq name q.name) ps ≡ false → code_in ps name ≡ None
absent name [] h = refl
absent name (p ∷ ps) h = by (bytes_eq name p.name) (list_any (λ q. bytes_eq name q.name) ps) h (absent name ps)
  where
    by : (b c : Bool) → (b || c) ≡ false → (c ≡ false → code_in ps name ≡ None) → cond b (Some p.code) (code_in ps name) ≡ None
    by true c h rest = absurd (false≢true (sym h))
    by false c h rest = rest h

uncoded : (code : ℕ) (ps : List Pair) → list_any (λ q. nat_eq code q.code) ps ≡ false → name_in ps code ≡ None
uncoded code [] h = refl
uncoded code (p ∷ ps) h = by (nat_eq code p.code) (list_any (λ q. nat_eq code q.code) ps) h (uncoded code ps)
  where
    by : (b c : Bool) → (b || c) ≡ false → (c ≡ false → name_in ps code ≡ None) → cond b (Some p.name) (name_in ps code) ≡ None
    by true c h rest = absurd (false≢true (sym h))
    by false c h rest = rest h

module _ (x : Indexed) (ps : List Pair) (name : List ℕ) (code : ℕ) (s : Stands x ps) (none : list_any (shares (record { name = name; code = code })) ps ≡ false) where
  abbrev neither : (list_any (λ q. bytes_eq name q.name) ps || list_any (λ q. nat_eq code q.code) ps) ≡ false
  neither = sym (shares-split (record { name = name; code = code }) ps) ∙ none

  -- its name has no code
  pub absent_named : code_in x.by_name name ≡ None
  absent_named = s.codes_are name ∙ absent name ps (or-first (list_any (λ q. bytes_eq name q.name) ps) (list_any (λ q. nat_eq code q.code) ps) neither)

  -- its code has no name
  pub absent_code : name_in x.by_code code ≡ None
  absent_code = s.names_are code ∙ uncoded code ps (or-last (list_any (λ q. bytes_eq name q.name) ps) (list_any (λ q. nat_eq code q.code) ps) neither)

-- what pairs show with one more after them
module _ (code : ℕ) (name : List ℕ) where
  pub codes_after : (es : List (ℕ × List ℕ)) → code_in (coded es) name ≡ None → (n : List ℕ) → code_in (coded (es ++ (code, name) ∷ [])) n ≡ cond (bytes_eq name n) (Some code) (code_in (coded es) n)
  codes_after [] none n = ap (λ b. cond b (Some code) None) (flip bytes_eq bytes_eq-Decides n name)
  codes_after (e ∷ es) none n = by (bytes_eq n e.1) (bytes_eq name n) (bytes_eq name e.1) refl refl refl none (λ others. codes_after es others n)
    where
      by : (b c d : Bool) → bytes_eq n e.1 ≡ b → bytes_eq name n ≡ c → bytes_eq name e.1 ≡ d → cond d (Some e.0) (code_in (coded es) name) ≡ None
          → (code_in (coded es) name ≡ None → code_in (coded (es ++ (code, name) ∷ [])) n ≡ cond (bytes_eq name n) (Some code) (code_in (coded es) n))
          → cond b (Some e.0) (code_in (coded (es ++ (code, name) ∷ [])) n) ≡ cond c (Some code) (cond b (Some e.0) (code_in (coded es) n))
      by b c true eb ec ed none rest = absurd (false≢true (ap is_some (sym none)))
      by true true false eb ec ed none rest = absurd (false≢true (sym ed ∙ (bytes_eq-Decides name e.1).1 ((bytes_eq-Decides name n).0 ec ∙ (bytes_eq-Decides n e.1).0 eb)))
      by true false false eb ec ed none rest = refl
      by false c false eb ec ed none rest = rest none ∙ ap (λ b. cond b (Some code) (code_in (coded es) n)) ec

  pub entries_after : (es new : List (ℕ × List ℕ)) (stored : List ℕ) → stored ≡ name → new ≡ insert_entry nat_eq es code stored → name_in (coded es) code ≡ None → new ≡ es ++ (code, name) ∷ []
  entries_after es new stored same is none =
      is ∙ sym (insert_absent nat_eq code stored es (unplaced (nat_eq code) es (sym (name_coded es code) ∙ none)))
      ∙ ap (λ n. es ++ (code, n) ∷ []) same

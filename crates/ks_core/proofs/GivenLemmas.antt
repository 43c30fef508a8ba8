-- The names that lines gave: look-ups in pairs, and in the entries that they are.
use Rattle.std.proofs.Common.{◌≡◌, ℕ, zero, suc, ◌+◌, Bool, true, false, ◌==◌, cond, Option, None, Some, List, [], ◌∷◌, ◌++◌, length, slice_get, find, String, string_bytes, refl, sym, ap, subst, ◌∙◌, add-one, eqb-true, is_some, true≢false, nat_cmp, rules}
use Rattle.std.specs.Global.{Global}
use Rattle.std.specs.List.{AllByRecursion, IsDistinct}
use Rattle.std.specs.Map.{keys_of, lookup}
use Rattle.std.specs.Cmp.Rules.{comparing}
use Rattle.std.specs.Ordering.{is_eq}
use Rattle.std.specs.Str.{bytes_eq}
use Rattle.std.specs.String.{string_eq, string_eq_equiv}
use Rattle.std.specs.Option.{option_map, option_or}
use Rattle.ks_core.specs.Entry.{Entry, keysym_in, name_in}
use Rattle.ks_core.specs.Given.{Pairs, entries_in, first_place}

abbrev Pair : Type 0
Pair = String Global × ℕ

pub lookup-entries_in : (test : List ℕ → Bool) (pairs : Pairs) → lookup test (entries_in pairs) ≡ lookup (λ (k : String Global). test (string_bytes k)) pairs
lookup-entries_in test [] = refl
lookup-entries_in test (pair ∷ pairs) = ap (cond (test (string_bytes pair.0)) (Some pair.1)) (lookup-entries_in test pairs)

pub name_in-entries_in : (pairs : Pairs) (keysym : ℕ) → name_in (entries_in pairs) keysym ≡ option_map (λ (pair : Pair). string_bytes pair.0) (find (λ (pair : Pair). pair.1 == keysym) pairs)
name_in-entries_in [] keysym = refl
name_in-entries_in (pair ∷ pairs) keysym = by (pair.1 == keysym) (name_in-entries_in pairs keysym)
  where
    by : (b : Bool) → name_in (entries_in pairs) keysym ≡ option_map (λ (pair : Pair). string_bytes pair.0) (find (λ (pair : Pair). pair.1 == keysym) pairs)
        → option_map (λ (e : Entry). e.0) (cond b (Some (string_bytes pair.0, pair.1)) (find (λ (e : Entry). e.1 == keysym) (entries_in pairs)))
        ≡ option_map (λ (pair : Pair). string_bytes pair.0) (cond b (Some pair) (find (λ (pair : Pair). pair.1 == keysym) pairs))
    by true rest = refl
    by false rest = rest

pub find-first_place : (pairs : Pairs) (keysym i : ℕ) → first_place pairs keysym ≡ Some i → find (λ (pair : Pair). pair.1 == keysym) pairs ≡ slice_get pairs i
find-first_place [] keysym i h = cc
find-first_place (pair ∷ pairs) keysym i h = by (pair.1 == keysym) (first_place pairs keysym) refl (find-first_place pairs keysym) h
  where
    by : (b : Bool) (r : Option ℕ) → first_place pairs keysym ≡ r → ((j : ℕ) → first_place pairs keysym ≡ Some j → find (λ (pair : Pair). pair.1 == keysym) pairs ≡ slice_get pairs j)
        → cond b (Some 0) (option_map (λ (place : ℕ). place + 1) r) ≡ Some i → cond b (Some pair) (find (λ (pair : Pair). pair.1 == keysym) pairs) ≡ slice_get (pair ∷ pairs) i
    by true r is rest h = let zeroth : 0 ≡ i = cc in rw (← zeroth) refl
    by false None is rest h = cc
    by false (Some j) is rest h = let next : j + 1 ≡ i = cc in rw (← next, add-one) (rest j is)

pub find-no_place : (pairs : Pairs) (keysym : ℕ) → first_place pairs keysym ≡ None → find (λ (pair : Pair). pair.1 == keysym) pairs ≡ None
find-no_place [] keysym h = refl
find-no_place (pair ∷ pairs) keysym h = by (pair.1 == keysym) (first_place pairs keysym) refl (find-no_place pairs keysym) h
  where
    by : (b : Bool) (r : Option ℕ) → first_place pairs keysym ≡ r → (first_place pairs keysym ≡ None → find (λ (pair : Pair). pair.1 == keysym) pairs ≡ None)
        → cond b (Some 0) (option_map (λ (place : ℕ). place + 1) r) ≡ None → cond b (Some pair) (find (λ (pair : Pair). pair.1 == keysym) pairs) ≡ None
    by true r is rest h = cc
    by false None is rest h = rest is
    by false (Some j) is rest h = cc

pub first_place-push : (pairs : Pairs) (name : String Global) (keysym other : ℕ) → first_place (pairs ++ (name, keysym) ∷ []) other ≡ option_or (first_place pairs other) (cond (keysym == other) (Some (length pairs)) None)
first_place-push [] name keysym other = by (keysym == other)
  where
    by : (b : Bool) → cond b (Some 0) (option_map (λ (place : ℕ). place + 1) None) ≡ option_or None (cond b (Some 0) None)
    by true = refl
    by false = refl
first_place-push (pair ∷ pairs) name keysym other = by (pair.1 == other) (first_place pairs other) (keysym == other) (first_place-push pairs name keysym other)
  where
    by : (b : Bool) (r : Option ℕ) (last : Bool) → first_place (pairs ++ (name, keysym) ∷ []) other ≡ option_or r (cond last (Some (length pairs)) None)
        → cond b (Some 0) (option_map (λ (place : ℕ). place + 1) (first_place (pairs ++ (name, keysym) ∷ []) other))
        ≡ option_or (cond b (Some 0) (option_map (λ (place : ℕ). place + 1) r)) (cond last (Some (suc (length pairs))) None)
    by true r last rest = refl
    by false None true rest = ap (option_map (λ (place : ℕ). place + 1)) rest ∙ ap Some (add-one (length pairs))
    by false None false rest = ap (option_map (λ (place : ℕ). place + 1)) rest
    by false (Some i) last rest = ap (option_map (λ (place : ℕ). place + 1)) rest

or_none : (o : Option ℕ) → o ≡ option_or o None
or_none None = refl
or_none (Some i) = refl

same_number : (x y : ℕ) → is_eq (nat_cmp x y) ≡ (x == y)
same_number x y = Prim.search (comparing, rules)

module _ (pairs : Pairs) (name : String Global) (keysym other : ℕ) where
  -- another name of a keysym that has one leaves the first places
  pub kept_place : true ≡ is_some (first_place pairs keysym) → first_place pairs other ≡ first_place (pairs ++ (name, keysym) ∷ []) other
  kept_place there = by (keysym == other) refl ∙ sym (first_place-push pairs name keysym other)
    where
      full : (o p : Option ℕ) → true ≡ is_some o → o ≡ option_or o p
      full None p h = absurd (true≢false h)
      full (Some i) p h = refl

      by : (b : Bool) → (keysym == other) ≡ b → first_place pairs other ≡ option_or (first_place pairs other) (cond b (Some (length pairs)) None)
      by true is = full (first_place pairs other) (Some (length pairs)) (there ∙ ap (λ k. is_some (first_place pairs k)) (eqb-true keysym other is))
      by false is = or_none (first_place pairs other)

  -- the first name of a keysym has its place after the others
  pub noted_place : false ≡ is_some (first_place pairs keysym) → cond (is_eq (nat_cmp keysym other)) (Some (length pairs)) (first_place pairs other) ≡ first_place (pairs ++ (name, keysym) ∷ []) other
  noted_place none =
      ap (λ b. cond b (Some (length pairs)) (first_place pairs other)) (same_number keysym other) ∙ by (keysym == other) refl
      ∙ sym (first_place-push pairs name keysym other)
    where
      empty : (o : Option ℕ) → false ≡ is_some o → Some (length pairs) ≡ option_or o (Some (length pairs))
      empty None h = refl
      empty (Some i) h = absurd (true≢false (sym h))

      by : (b : Bool) → (keysym == other) ≡ b → cond b (Some (length pairs)) (first_place pairs other) ≡ option_or (first_place pairs other) (cond b (Some (length pairs)) None)
      by true is = empty (first_place pairs other) (none ∙ ap (λ k. is_some (first_place pairs k)) (eqb-true keysym other is))
      by false is = or_none (first_place pairs other)

-- a name that the entries haven't is not among the pairs
pub not_there : (pairs : Pairs) (entries : List Entry) (name : String Global) (bytes : List ℕ) → entries_in pairs ≡ entries → string_bytes name ≡ bytes → keysym_in entries bytes ≡ None → lookup (string_eq name) pairs ≡ None
not_there pairs entries name bytes view named none =
    sym (lookup-entries_in (bytes_eq (string_bytes name)) pairs) ∙ ap (keysym_in (entries_in pairs)) named ∙ ap (λ es. keysym_in es bytes) view ∙ none

pub entries_in-push : (pairs : Pairs) (name : String Global) (keysym : ℕ) → entries_in (pairs ++ (name, keysym) ∷ []) ≡ entries_in pairs ++ (string_bytes name, keysym) ∷ []
entries_in-push [] name keysym = refl
entries_in-push (pair ∷ pairs) name keysym = ap (λ es. (string_bytes pair.0, pair.1) ∷ es) (entries_in-push pairs name keysym)

pub find-passes : {X : Type 0} (test : X → Bool) (xs : List X) (x : X) → find test xs ≡ Some x → test x ≡ true
find-passes test [] x h = cc
find-passes test (y ∷ ys) x h = by (test y) refl (find-passes test ys x) h
  where
    by : (b : Bool) → test y ≡ b → (find test ys ≡ Some x → test x ≡ true) → cond b (Some y) (find test ys) ≡ Some x → test x ≡ true
    by true is rest h = let same : y ≡ x = cc in rw (← same) is
    by false is rest h = rest h

-- the name at the first place of a keysym
pub name_in-found : (pairs : Pairs) (keysym i : ℕ) (r : Option Pair) → Some i ≡ first_place pairs keysym → r ≡ slice_get pairs i → option_map (λ (pair : Pair). string_bytes pair.0) r ≡ name_in (entries_in pairs) keysym
name_in-found pairs keysym i r place at =
    ap (option_map (λ (pair : Pair). string_bytes pair.0)) (at ∙ sym (find-first_place pairs keysym i (sym place))) ∙ sym (name_in-entries_in pairs keysym)

pub name_in-absent : (pairs : Pairs) (keysym : ℕ) → None ≡ first_place pairs keysym → None ≡ name_in (entries_in pairs) keysym
name_in-absent pairs keysym place = sym (name_in-entries_in pairs keysym ∙ ap (option_map (λ (pair : Pair). string_bytes pair.0)) (find-no_place pairs keysym (sym place)))

pub keysym_at : (pairs : Pairs) (keysym i : ℕ) (pair : Pair) → Some i ≡ first_place pairs keysym → Some pair ≡ slice_get pairs i → pair.1 ≡ keysym
keysym_at pairs keysym i pair place at =
    eqb-true pair.1 keysym (find-passes (λ (p : Pair). p.1 == keysym) pairs pair (find-first_place pairs keysym i (sym place) ∙ sym at))

-- a key that is apart from others is apart from each
apart : (key : String Global) (pairs : Pairs) (i : ℕ) (pair : Pair) → AllByRecursion (λ k. string_eq key k ≡ false) (keys_of pairs) → slice_get pairs i ≡ Some pair → string_eq key pair.0 ≡ false
apart key [] i pair h at = cc
apart key (first ∷ rest) zero pair h at = let same : first ≡ pair = cc in rw (← same) h.0
apart key (first ∷ rest) (suc i) pair h at = apart key rest i pair h.1 at

-- a name has the keysym that stands beside it
pub own_keysym : (pairs : Pairs) (i : ℕ) (pair : Pair) → IsDistinct string_eq (keys_of pairs) → slice_get pairs i ≡ Some pair → lookup (string_eq pair.0) pairs ≡ Some pair.1
unfolding IsDistinct
own_keysym [] i pair distinct at = cc
own_keysym (first ∷ rest) zero pair distinct at =
    let same : first ≡ pair = cc in
    subst (λ (p : Pair). lookup (string_eq p.0) (first ∷ rest) ≡ Some p.1) same (ap (λ b. cond b (Some first.1) (lookup (string_eq first.0) rest)) (string_eq_equiv.refl first.0))
own_keysym (first ∷ rest) (suc i) pair distinct at =
    ap (λ b. cond b (Some first.1) (lookup (string_eq pair.0) rest)) (string_eq_equiv.symm pair.0 first.0 ∙ apart first.0 rest i pair distinct.0 at)
    ∙ own_keysym rest i pair distinct.1 at

-- the same among the entries
pub own_entry : (pairs : Pairs) (entries : List Entry) (keysym i : ℕ) (pair : Pair) (name : List ℕ) → entries_in pairs ≡ entries → IsDistinct string_eq (keys_of pairs) → Some i ≡ first_place pairs keysym → Some pair ≡ slice_get pairs i → name ≡ string_bytes pair.0 → keysym_in entries name ≡ Some keysym
own_entry pairs entries keysym i pair name view distinct place at named =
    ap (λ es. keysym_in es name) (sym view) ∙ ap (keysym_in (entries_in pairs)) named ∙ lookup-entries_in (bytes_eq (string_bytes pair.0)) pairs
    ∙ own_keysym pairs i pair distinct (sym at) ∙ ap Some (keysym_at pairs keysym i pair place at)

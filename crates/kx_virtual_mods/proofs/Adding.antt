-- Going over statements: those that are after have added their names.
use Rattle.std.proofs.Common.{◌≡◌, ℕ, ◌+◌, ◌≤◌, ◌<◌, Bool, true, false, cond, List, [], ◌∷◌, ◌++◌, Contains, IfErr, OnOk, Result, Ok, Err, ◌⊎◌, inl, inr, zero, suc, set, drop, get_or, unwrap_or, Option, None, length, nat_lt, refl, sym, ap, ◌∙◌, subst, arith, Some}
use Rattle.std.specs.List.{flat_map, slice_get}
use Rattle.std.specs.Result.{IsErrAnd}
use Rattle.std.proofs.lemmas.List.{append-nil, drop_all}
use Rattle.std.proofs.lemmas.List.Elements.{Contains-append_left}
use Rattle.std.proofs.lemmas.List.Sums.{fold-append}
use Rattle.kx_include.specs.declared.expansion.Map.{Map}
use Rattle.kx_lex.specs.declared.fault.Fault.{Fault}
use Rattle.kx_lex.specs.declared.fault.Fault.TheVariants.{Memory, TooMany}
use Rattle.kx_include.specs.IncludeFaults.{at}
use Rattle.kx_include.specs.Shared.{body_at}
use Rattle.kx_tree.specs.declared.tree.Statement.{Statement}
use Rattle.kx_virtual_mods.specs.Counted.{Said, Text, crossing, names_behind, names_with, statements_of}
use Rattle.kx_virtual_mods.specs.Tallies.{Adds, AreDone, HasAll, bodies_of}
use Rattle.kx_virtual_mods.specs.declared.counted.Tally.{Tally}
use Rattle.kx_merge.proofs.Going.{drop_next}
use Rattle.kx_virtual_mods.proofs.There.{all_adds, all_behind, all_cross, all_now, few_cross}

-- faults after others count only where there are none of these
abbrev behind : List Fault → List Fault → List Fault
behind [] later = later
behind (f ∷ fs) later = []

marked : (ds : List Bool) (n k : ℕ) → slice_get (set ds n true) k ≡ Some true → (k ≡ n) ⊎ (slice_get ds k ≡ Some true)
marked [] n k h = inr h
marked (d ∷ ds) zero zero h = inl refl
marked (d ∷ ds) zero (suc k) h = inr h
marked (d ∷ ds) (suc n) zero h = inr h
marked (d ∷ ds) (suc n) (suc k) h = elim (marked ds n k h) [ inl here ↦ inl (ap suc here) | inr before ↦ inr before ]

pub is_marked : (o : Option Bool) (b : Bool) → b ≡ unwrap_or o false → b ≡ true → o ≡ Some true
is_marked None b is set = cc
is_marked (Some true) b is set = refl
is_marked (Some false) b is set = cc

pub flat_next : {X Y : Type 0} (f : X → List Y) (xs : List X) (i : ℕ) (x : X) → i < length xs → x ≡ get_or xs i x → flat_map f (drop i xs) ≡ f x ++ flat_map f (drop (i + 1) xs)
flat_next f xs i x within is = ap (flat_map f) (drop_next xs i x within is)

pub flat_done : {X Y : Type 0} (f : X → List Y) (xs : List X) (i : ℕ) → length xs ≤ i → flat_map f (drop i xs) ≡ []
flat_done f xs i over = ap (flat_map f) (drop_all i xs over)

module _ (names : Statement → List Text) (limit : ℕ) where
  behind-append : (ks : List Text) (one rest : List Said) → names_behind names ks (one ++ rest) ≡ names_behind names (names_behind names ks one) rest
  behind-append ks one rest = fold-append (names_with names) ks one rest

  crossing-append : (ks : List Text) (one rest : List Said) → crossing names limit ks (one ++ rest) ≡ crossing names limit ks one ++ behind (crossing names limit ks one) (crossing names limit (names_behind names ks one) rest)
  crossing-append ks [] rest = refl
  crossing-append ks (said ∷ one) rest = by (TooMany (at said.0.file said.1.span)) (nat_lt limit (length (names_with names ks said))) (crossing-append (names_with names ks said) one rest)
    where
      by : (f : Fault) (b : Bool) → crossing names limit (names_with names ks said) (one ++ rest) ≡ crossing names limit (names_with names ks said) one ++ behind (crossing names limit (names_with names ks said) one) (crossing names limit (names_behind names ks (said ∷ one)) rest)
          → cond b (f ∷ []) (crossing names limit (names_with names ks said) (one ++ rest))
          ≡ cond b (f ∷ []) (crossing names limit (names_with names ks said) one) ++ behind (cond b (f ∷ []) (crossing names limit (names_with names ks said) one)) (crossing names limit (names_behind names ks (said ∷ one)) rest)
      by f true same = refl
      by f false same = same

  module _ (maps : List Map) where
    -- from some names on, of all statements so many are left
    pub record Going (start : List Text) (now : Tally) (whole left : List Said) : Type 0 where
      pub names_go : names_behind names now.names left ≡ names_behind names start whole
      pub faults_go : crossing names limit start whole ≡ crossing names limit now.names left
      pub few : length now.names ≤ limit
      pub done : AreDone names maps now

    pub going_new : (now : Tally) (whole : List Said) → length now.names ≤ limit → AreDone names maps now → Going now.names now whole whole
    going_new now whole few done = record { names_go = refl; faults_go = refl; few = few; done = done }

    pub going_on : (start : List Text) (now new : Tally) (whole left one rest : List Said) → left ≡ one ++ rest → Going start now whole left → Adds names {X = Unit {0}} limit maps now (Ok tt) new one → Going start new whole rest
    going_on start now new whole left one rest is g a = record {
      names_go = ap (λ ks. names_behind names ks rest) a.added ∙ sym (behind-append now.names one rest) ∙ ap (names_behind names now.names) (sym is) ∙ g.names_go;
      faults_go = g.faults_go ∙ ap (crossing names limit now.names) is ∙ crossing-append now.names one rest ∙ ap (λ fs. fs ++ behind fs (crossing names limit (names_behind names now.names one) rest)) a.faultless ∙ ap (λ ks. crossing names limit ks rest) (sym a.added);
      few = a.few;
      done = a.done;
    }

    pub going_blames : (start : List Text) (now : Tally) (whole left one rest : List Said) (e : Fault) → left ≡ one ++ rest → Going start now whole left → Contains (Memory ∷ crossing names limit now.names one) e → Contains (Memory ∷ crossing names limit start whole) e
    going_blames start now whole left one rest e is g has =
        subst (λ fs. Contains (Memory ∷ fs) e) (sym (g.faults_go ∙ ap (crossing names limit now.names) is ∙ crossing-append now.names one rest))
        (Contains-append_left (Memory ∷ crossing names limit now.names one) (behind (crossing names limit now.names one) (crossing names limit (names_behind names now.names one) rest)) e has)

    pub adds_err : (old now : Tally) (whole : List Said) (r : Result (Unit {0}) Fault) (e : Fault) → IsErrAnd r (λ y. y ≡ e) → Contains (Memory ∷ crossing names limit old.names whole) e → Adds names {X = Unit {0}} limit maps old r now whole
    adds_err old now whole (Ok x) e is has = absurd is
    adds_err old now whole (Err y) e is has = record { added = tt; faultless = tt; few = tt; done = tt; fault = subst (Contains (Memory ∷ crossing names limit old.names whole)) (sym is) has }

  -- maps that were gone over stay so where names are added
  pub done_on : (maps : List Map) (old new : Tally) (saids : List Said) → new.names ≡ names_behind names old.names saids → new.done.items ≡ old.done.items → AreDone names maps old → AreDone names maps new
  done_on maps old new saids added same done n marked = subst (λ ks. HasAll names ks (statements_of (body_at (bodies_of maps) n))) (sym added) (all_behind names old.names saids (statements_of (body_at (bodies_of maps) n)) (done n (ap (λ ds. slice_get ds n) (sym same) ∙ marked)))

  -- what is there adds nothing
  pub adds_none : (maps : List Map) (old : Tally) (saids : List Said) → HasAll names old.names saids → length old.names ≤ limit → AreDone names maps old → Adds names {X = Unit {0}} limit maps old (Ok tt) old saids
  adds_none maps old saids has few done = record { added = sym (all_adds names old.names saids has); faultless = all_cross names limit old.names saids has few; few = few; done = done; fault = tt }

  -- a statement
  pub adds_statement : (maps : List Map) (old new : Tally) (said : Said) (r : Result (Unit {0}) Fault) → AreDone names maps old → new.done.items ≡ old.done.items
      → OnOk r (new.names ≡ names_with names old.names said) → OnOk r (length new.names ≤ limit) → IfErr r (λ e. Contains (Memory ∷ crossing names limit old.names (said ∷ [])) e)
      → Adds names {X = Unit {0}} limit maps old r new (said ∷ [])
  adds_statement maps old new said (Err e) done same added few fault = record { added = tt; faultless = tt; few = tt; done = tt; fault = fault }
  adds_statement maps old new said (Ok x) done same added few fault = record {
    added = added;
    faultless = few_cross names limit old.names said [] (subst (λ ks. length ks ≤ limit) added few);
    few = few;
    done = done_on maps old new (said ∷ []) added same done;
    fault = tt;
  }

  -- a map that was gone over is marked
  pub adds_marked : (maps : List Map) (old mid new : Tally) (n : ℕ) (one whole : List Said) → whole ≡ one → whole ≡ statements_of (body_at (bodies_of maps) n) → Adds names {X = Unit {0}} limit maps old (Ok tt) mid one
      → new.names ≡ mid.names → new.done.items ≡ set mid.done.items n true → Adds names {X = Unit {0}} limit maps old (Ok tt) new whole
  adds_marked maps old mid new n one whole same is a names_are done_are = record {
    added = names_are ∙ a.added ∙ ap (names_behind names old.names) (sym same);
    faultless = ap (crossing names limit old.names) same ∙ a.faultless;
    few = subst (λ ks. length ks ≤ limit) (sym names_are) a.few;
    done = λ k found. at k (marked mid.done.items n k (ap (λ ds. slice_get ds k) (sym done_are) ∙ found));
    fault = tt;
  }
    where
      at : (k : ℕ) → (k ≡ n) ⊎ (slice_get mid.done.items k ≡ Some true) → HasAll names new.names (statements_of (body_at (bodies_of maps) k))
      at k (inl here) = subst (λ j. HasAll names new.names (statements_of (body_at (bodies_of maps) j))) (sym here) (subst (HasAll names new.names) is
          (subst (λ ks. HasAll names ks whole) (ap (names_behind names old.names) same ∙ sym a.added ∙ sym names_are) (all_now names old.names whole)))
      at k (inr before) = subst (λ ks. HasAll names ks (statements_of (body_at (bodies_of maps) k))) (sym names_are) (a.done k before)

  -- from no names on, of the statements of bodies so many are left
  pub record Counting (now : List Text) (whole left : List Said) : Type 0 where
    pub names_go : names_behind names now left ≡ names_behind names [] whole
    pub faults_go : crossing names limit [] whole ≡ crossing names limit now left
    pub few : length now ≤ limit

  pub counting_on : (now new : List Text) (whole left one rest : List Said) → left ≡ one ++ rest → Counting now whole left → new ≡ names_behind names now one → crossing names limit now one ≡ [] → length new ≤ limit → Counting new whole rest
  counting_on now new whole left one rest is g added faultless few = record {
    names_go = ap (λ ks. names_behind names ks rest) added ∙ sym (behind-append now one rest) ∙ ap (names_behind names now) (sym is) ∙ g.names_go;
    faults_go = g.faults_go ∙ ap (crossing names limit now) is ∙ crossing-append now one rest ∙ ap (λ fs. fs ++ behind fs (crossing names limit (names_behind names now one) rest)) faultless ∙ ap (λ ks. crossing names limit ks rest) (sym added);
    few = few;
  }

  pub counting_blames : (now : List Text) (whole left one rest : List Said) (e : Fault) → left ≡ one ++ rest → Counting now whole left → Contains (Memory ∷ crossing names limit now one) e → Contains (Memory ∷ crossing names limit [] whole) e
  counting_blames now whole left one rest e is g has =
      subst (λ fs. Contains (Memory ∷ fs) e) (sym (g.faults_go ∙ ap (crossing names limit now) is ∙ crossing-append now one rest))
      (Contains-append_left (Memory ∷ crossing names limit now one) (behind (crossing names limit now one) (crossing names limit (names_behind names now one) rest)) e has)

  pub counting_new : (whole : List Said) → Counting [] whole whole
  counting_new whole = record { names_go = refl; faults_go = refl; few = omega arith }

  -- three bodies, one after another
  module _ (a b c : List Said) where
    abbrev three : List Said
    three = a ++ (b ++ (c ++ []))

    -- names and no fault come of a body after others
    pub record Passed (before new : List Text) (saids : List Said) : Type 0 where
      pub added : new ≡ names_behind names before saids
      pub faultless : crossing names limit before saids ≡ []
      pub few : length new ≤ limit

    first-counted : (n1 : List Text) → Passed [] n1 a → Counting n1 three (b ++ (c ++ []))
    first-counted n1 one = counting_on [] n1 three three a (b ++ (c ++ [])) refl (counting_new three) one.added one.faultless one.few

    second-counted : (n1 n2 : List Text) → Passed [] n1 a → Passed n1 n2 b → Counting n2 three (c ++ [])
    second-counted n1 n2 one two = counting_on n1 n2 three (b ++ (c ++ [])) b (c ++ []) refl (first-counted n1 one) two.added two.faultless two.few

    pub first_blamed : (e : Fault) → Contains (Memory ∷ crossing names limit [] a) e → Contains (Memory ∷ crossing names limit [] three) e
    first_blamed e has = counting_blames [] three three a (b ++ (c ++ [])) e refl (counting_new three) has

    pub second_blamed : (n1 : List Text) (e : Fault) → Passed [] n1 a → Contains (Memory ∷ crossing names limit n1 b) e → Contains (Memory ∷ crossing names limit [] three) e
    second_blamed n1 e one has = counting_blames n1 three (b ++ (c ++ [])) b (c ++ []) e refl (first-counted n1 one) has

    pub third_names : (n1 n2 : List Text) → Passed [] n1 a → Passed n1 n2 b → names_behind names n2 c ≡ names_behind names [] three
    third_names n1 n2 one two = ap (names_behind names n2) (sym (append-nil c)) ∙ (second-counted n1 n2 one two).names_go

    pub third_faults : (n1 n2 : List Text) → Passed [] n1 a → Passed n1 n2 b → crossing names limit n2 c ≡ crossing names limit [] three
    third_faults n1 n2 one two = ap (crossing names limit n2) (sym (append-nil c)) ∙ sym (second-counted n1 n2 one two).faults_go

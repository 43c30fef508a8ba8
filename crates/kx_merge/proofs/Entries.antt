-- An entry of a map that is merged, by what it is known to offer.
use Rattle.std.proofs.Common.{◌≡◌, ℕ, ◌+◌, ◌<◌, Bool, cond, List, [], ◌∷◌, ◌++◌, length, get_or, Option, Contains, Result, Ok, Err, sym, subst}
use Rattle.std.proofs.lemmas.List.{append-nil}
use Rattle.std.specs.Cmp.{IsEquivalence}
use Rattle.kx_lex.specs.declared.fault.Fault.{Fault}
use Rattle.kx_lex.specs.declared.fault.Fault.TheVariants.{Memory}
use Rattle.kx_include.specs.Expansion.{Body, End}
use Rattle.kx_include.specs.Shared.{entries_body, links_body}
use Rattle.kx_include.specs.declared.expansion.Entry.{Entry}
use Rattle.kx_include.specs.declared.expansion.Link.{Link}
use Rattle.kx_include.specs.declared.place.Place.{Place}
use Rattle.kx_tree.specs.declared.tree.Mode.{Mode}
use Rattle.kx_merge.specs.Bodies.{Rules, Moves, faults, gathered, offers_of}
use Rattle.kx_merge.specs.Gatherings.{Adds, AddsBehind, entry_faults, entry_next, entry_offers, included_by}
use Rattle.kx_merge.specs.Joins.{included_offers}
use Rattle.kx_merge.specs.Offers.{Offer, is_replace}
use Rattle.kx_merge.specs.Records.{Form}
use Rattle.kx_merge.specs.Renewals.{TakesBack}
use Rattle.kx_merge.proofs.Covering.{gentle_gathered, gentle_to}
use Rattle.kx_merge.proofs.Passing.{Covering, Going, covering_on, going_fault}

module _ {K C V R X : Type 0} {form : Form R C V} {eq : K → K → Bool} {r : Result X Fault} {n1 n2 : List K} {a1 a2 : K → Option R} {added : List (Offer K C V)} {blamed : List Fault} where
  pub adds_behind : (last : List (Offer K C V)) → Adds form eq n1 a1 r n2 a2 added blamed → AddsBehind form eq last n1 a1 r n2 a2 added blamed
  adds_behind last adds = record { shows = λ os. adds.shows (os ++ last); faultless = adds.faultless; fault = adds.fault }

-- an include takes values back of none but where it may take back all
pub include_back : {K C V D : Type 0} (eq : K → K → Bool) (rules : Rules K C V D) (moves : Moves K C) (bodies : List Body) (noted : List K) (x : Mode × List Link) → TakesBack eq (is_replace x.0) noted noted (included_offers eq rules moves bodies x)
include_back eq rules moves bodies noted x =
    let inner = offers_of eq rules moves (links_body bodies x.1) in
    record { keys = []; noted = sym (append-nil noted); gentle = λ gentle k away. gentle_to eq k (gathered eq x.0 inner) (gentle_gathered eq x.0 inner gentle) }

module _ {K C V D R X : Type 0} {form : Form R C V} (eq : K → K → Bool) (rules : Rules K C V D) (moves : Moves K C) (bodies : List Body) (place : Place) (d : D) (e : Entry) where
  -- of an entry that is known to offer this, and to have these faults
  adds-entry : {last os : List (Offer K C V)} {fs : List Fault} {n1 n2 : List K} {a1 a2 : K → Option R} (r : Result X Fault) → entry_offers eq rules moves bodies place d e ≡ os → entry_faults eq rules moves bodies place d e ≡ fs → AddsBehind form eq last n1 a1 r n2 a2 os fs
      → AddsBehind form eq last n1 a1 r n2 a2 (entry_offers eq rules moves bodies place d e) (entry_faults eq rules moves bodies place d e)
  adds-entry {last = last} {os = os} {n1 = n1} {n2 = n2} {a1 = a1} {a2 = a2} r offered blamed adds =
      subst (λ ys. AddsBehind form eq last n1 a1 r n2 a2 ys (entry_faults eq rules moves bodies place d e)) (sym offered)
      (subst (λ gs. AddsBehind form eq last n1 a1 r n2 a2 os gs) (sym blamed) adds)

module _ {K C V D R : Type 0} (form : Form R C V) (eq : K → K → Bool) (rules : Rules K C V D) (moves : Moves K C) (bodies : List Body) (place : Place) (xs : List Entry)
    (last : Mode × List Link) (i : ℕ) (d : D) {names : List K} {at : K → Option R} {n1 : List K} {a1 : K → Option R} {n2 : List K} {a2 : K → Option R} {X : Type 0} (e : Entry) (within : i < length xs) (is : e ≡ get_or xs i e)
    (os : List (Offer K C V)) (fs : List Fault) (offered : entry_offers eq rules moves bodies place d e ≡ os) (blamed : entry_faults eq rules moves bodies place d e ≡ fs) where
  pub fault_by : {f : Fault} → Going form eq rules moves bodies place xs names at last i d n1 a1 → AddsBehind form eq {X = X} (included_offers eq rules moves bodies last) n1 a1 (Err f) n2 a2 os fs
      → Contains (Memory ∷ faults eq rules moves rules.start (entries_body bodies place xs End)) f
  fault_by {f = f} l adds = going_fault form eq rules moves bodies place xs e l within is (adds-entry eq rules moves bodies place d e (Err f) offered blamed adds)

  pub covering_by : (laws : IsEquivalence eq) {since : ℕ} {marks : List ℕ} {noted new_noted : List K} {x : X} (next : D) → entry_next rules d e ≡ next
      → Covering form eq laws rules moves bodies place xs names at last since marks noted i d n1 a1
      → TakesBack eq (is_replace (included_by e).0) noted new_noted os → AddsBehind form eq (included_offers eq rules moves bodies last) n1 a1 (Ok x) n2 a2 os fs
      → Covering form eq laws rules moves bodies place xs names at (included_by e) (cond (is_replace (included_by e).0) (i + 1) since) (marks ++ length new_noted ∷ []) new_noted (i + 1) next n2 a2
  covering_by laws {since = since} {marks = marks} {noted = noted} {new_noted = new_noted} {x = x} next goes l back adds =
      subst (λ then. Covering form eq laws rules moves bodies place xs names at (included_by e) (cond (is_replace (included_by e).0) (i + 1) since) (marks ++ length new_noted ∷ []) new_noted (i + 1) then n2 a2) goes
      (covering_on form eq laws rules moves bodies place xs e l within is (subst (TakesBack eq (is_replace (included_by e).0) noted new_noted) (sym offered) back) (adds-entry eq rules moves bodies place d e (Ok x) offered blamed adds))

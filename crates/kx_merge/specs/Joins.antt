-- What going over includes makes of records, over the maps that are done.
use Rattle.std.specs.Prelude.{◌≡◌, ℕ, Bool, true, List, [], map, Option, Result, IfOk}
use Rattle.indexmap.specs.IndexMap.{IndexMap}
use Rattle.kx_lex.specs.declared.fault.Fault.{Fault}
use Rattle.kx_include.specs.Expansion.{Body}
use Rattle.kx_include.specs.Shared.{body_at, links_body}
use Rattle.kx_include.specs.declared.expansion.Link.{Link}
use Rattle.kx_tree.specs.declared.tree.Mode.{Mode}
use Rattle.kx_merge.specs.declared.gathering.Included.{Included}
use Rattle.kx_merge.specs.declared.gathering.Merged.{Merged}
use Rattle.kx_merge.specs.Bodies.{Rules, Moves, faults_of, gather, gathered, moved, offers_of}
use Rattle.kx_merge.specs.Gatherings.{AreGathered, TableAdds, TableAddsBehind}
use Rattle.kx_merge.specs.Offers.{Offer}
use Rattle.kx_merge.specs.Records.{Form}
use Rattle.kx_merge.specs.Renewals.{TableTakesUp}

-- the mode and the parts of an include
abbrev pub include_of : Included → Mode × List Link
include_of i = (i.mode, i.links.now)

-- the body of parts, and that of a part's map, among the bodies of the maps that are done
abbrev pub parts : List Link → List Body → Body
parts links bodies = links_body bodies links

abbrev pub map_of : Link → List Body → Body
map_of link bodies = body_at bodies link.map

module _ {K C V : Type 0} (eq : K → K → Bool) (moves : Moves K C) (link : Link) where
  -- what a part makes of what its map offers
  abbrev pub linked : List (Offer K C V) → List (Offer K C V)
  linked inner = moved moves link.group (gathered eq link.mode inner)

  -- the same of some records alone
  abbrev pub linked_to : List K → List (Offer K C V) → List (Offer K C V)
  linked_to ks inner = moved moves link.group (map (gather eq link.mode inner) ks)

module _ {K C V D : Type 0} (eq : K → K → Bool) (rules : Rules K C V D) (moves : Moves K C) (bodies : List Body) where
  -- what an include offers, and its faults
  abbrev pub included_offers : Mode × List Link → List (Offer K C V)
  included_offers x = gathered eq x.0 (offers_of eq rules moves (links_body bodies x.1))

  abbrev pub included_faults : Mode × List Link → List Fault
  included_faults x = faults_of eq rules moves (links_body bodies x.1)

-- a body's offers are merged into records, or a fault of its is met
abbrev pub MergesBody : {K C V D R X : Type 0} → Form R C V → (K → K → Bool) → Rules K C V D → Moves K C → List (Result (Merged K R) Fault) → Merged K R → Result X Fault → Merged K R → (List Body → Body) → Type 0
MergesBody form eq rules moves done old answer new body = (bodies : List Body) → AreGathered form eq rules moves done bodies → TableAdds form eq old.records answer new.records (offers_of eq rules moves (body bodies)) (faults_of eq rules moves (body bodies))

-- the same whatever the statements mean, whose defaults are a `D`
module _ {K C V R : Type 0} (D : Type 0) (form : Form R C V) (eq : K → K → Bool) (moves : Moves K C) (done : List (Result (Merged K R) Fault)) where
  -- a body's offers are joined, and merged into records, or a fault of its is met
  abbrev pub Joins : {X : Type 0} → Merged K R → Result X Fault → Merged K R → (List (Offer K C V) → List (Offer K C V)) → (List Body → Body) → Type 0
  Joins old answer new join body = (rules : Rules K C V D) (bodies : List Body) → AreGathered form eq rules moves done bodies → TableAdds form eq old.records answer new.records (join (offers_of eq rules moves (body bodies))) (faults_of eq rules moves (body bodies))

  -- an include is merged right after another, which has no fault
  abbrev pub JoinsBehind : {X : Type 0} → Merged K R → Result X Fault → Merged K R → Mode × List Link → Mode × List Link → Type 0
  JoinsBehind old answer new last included = (rules : Rules K C V D) (bodies : List Body) → AreGathered form eq rules moves done bodies → included_faults eq rules moves bodies last ≡ [] → TableAddsBehind form eq old.records answer new.records (included_offers eq rules moves bodies last) (included_offers eq rules moves bodies included) (included_faults eq rules moves bodies included)

  -- what a body offers to the records of some keys, joined, is merged into them
  abbrev pub TakesUpBody : {S : Type 0} → List K → IndexMap K R S → IndexMap K R S → (List (Offer K C V) → List (Offer K C V)) → (List Body → Body) → Type 0
  TakesUpBody ks old new join body = (rules : Rules K C V D) (bodies : List Body) → AreGathered form eq rules moves done bodies → TableTakesUp form eq ks old new (join (offers_of eq rules moves (body bodies)))

  -- the same where the answer says so
  abbrev pub GivesAgain : {S : Type 0} → List K → IndexMap K R S → Result Bool Fault → IndexMap K R S → (List (Offer K C V) → List (Offer K C V)) → (List Body → Body) → Type 0
  GivesAgain ks old answer new join body = IfOk answer (λ again. again ≡ true → TakesUpBody ks old new join body)

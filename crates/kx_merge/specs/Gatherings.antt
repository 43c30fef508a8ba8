-- What going over a part of a body makes of records.
use Rattle.std.specs.Prelude.{◌≡◌, ◌<◌, ◌≤◌, Bool, true, false, ℕ, List, [], ◌∷◌, ◌++◌, length, slice_get, Option, Some, Result, Ok, Err, IfErr, OnOk, Contains}
use Rattle.std.specs.Option.{option_map}
use Rattle.indexmap.specs.IndexMap.{IndexMap, get, keys}
use Rattle.kx_lex.specs.declared.fault.Fault.{Fault}
use Rattle.kx_lex.specs.declared.fault.Fault.TheVariants.{Memory}
use Rattle.kx_include.specs.Expansion.{Body}
use Rattle.kx_include.specs.Shared.{links_body}
use Rattle.kx_include.specs.declared.expansion.Entry.{Entry}
use Rattle.kx_include.specs.declared.expansion.Entry.TheVariants.{Own, Include}
use Rattle.kx_include.specs.declared.expansion.Link.{Link}
use Rattle.kx_include.specs.declared.place.Place.{Place}
use Rattle.kx_tree.specs.declared.tree.Mode.{Mode}
use Rattle.kx_tree.specs.declared.tree.Mode.TheVariants.{Augment}
use Rattle.kx_merge.specs.declared.gathering.Merged.{Merged}
use Rattle.kx_merge.specs.declared.placed.Placed.{Placed}
use Rattle.kx_merge.specs.Bodies.{Rules, Moves, gathered, offers_of, faults_of}
use Rattle.kx_merge.specs.Offers.{Offer, is_strong}
use Rattle.kx_merge.specs.Records.{Form, Shows, TableShows}

module _ {K C V R : Type 0} (form : Form R C V) (eq : K → K → Bool) where
  -- offers are merged into records, unless a fault among some is met
  pub record Adds {X : Type 0} (names : List K) (at : K → Option R) (answer : Result X Fault) (new_names : List K) (new_at : K → Option R) (added : List (Offer K C V)) (blamed : List Fault) : Type 0 where
    pub shows : (os : List (Offer K C V)) → Shows form eq names at os → OnOk answer (Shows form eq new_names new_at (os ++ added))
    pub faultless : OnOk answer (blamed ≡ [])
    pub fault : IfErr answer (λ e. Contains (Memory ∷ blamed) e)

  -- the same after some offers that were merged last
  pub record AddsBehind {X : Type 0} (last : List (Offer K C V)) (names : List K) (at : K → Option R) (answer : Result X Fault) (new_names : List K) (new_at : K → Option R) (added : List (Offer K C V)) (blamed : List Fault) : Type 0 where
    pub shows : (os : List (Offer K C V)) → Shows form eq names at (os ++ last) → OnOk answer (Shows form eq new_names new_at ((os ++ last) ++ added))
    pub faultless : OnOk answer (blamed ≡ [])
    pub fault : IfErr answer (λ e. Contains (Memory ∷ blamed) e)

  -- the same of a table of records, and whether or not a fault is met
  module _ {X S : Type 0} (old : IndexMap K R S) (answer : Result X Fault) (new : IndexMap K R S) where
    abbrev pub TableAdds : List (Offer K C V) → List Fault → Type 0
    TableAdds added blamed = Adds (keys old) (get eq old) answer (keys new) (get eq new) added blamed

    abbrev pub TableAddsBehind : List (Offer K C V) → List (Offer K C V) → List Fault → Type 0
    TableAddsBehind last added blamed = AddsBehind last (keys old) (get eq old) answer (keys new) (get eq new) added blamed

    abbrev pub Merges : List (Offer K C V) → Type 0
    Merges added = (os : List (Offer K C V)) → TableShows form eq old os → OnOk answer (TableShows form eq new (os ++ added))

    -- what another table shows is joined and merged
    abbrev pub MergesTable : IndexMap K R S → (List (Offer K C V) → List (Offer K C V)) → Type 0
    MergesTable given join = (inner : List (Offer K C V)) → TableShows form eq given inner → Merges (join inner)

module _ {K C V D R : Type 0} (form : Form R C V) (eq : K → K → Bool) (rules : Rules K C V D) (moves : Moves K C) where
  -- a map's records show its body, or a fault of its stands in their place
  abbrev pub IsGathered : Result (Merged K R) Fault → Body → Type 0
  IsGathered (Ok g) b = Shows form eq (keys g.records) (get eq g.records) (offers_of eq rules moves b) × (faults_of eq rules moves b ≡ [])
  IsGathered (Err e) b = Contains (Memory ∷ faults_of eq rules moves b) e

  -- maps in order are bodies in order
  pub data AreGathered : List (Result (Merged K R) Fault) → List Body → Type 0 where
    none : AreGathered [] []
    more : {r : Result (Merged K R) Fault} {b : Body} {rs : List (Result (Merged K R) Fault)} {bs : List Body} → IsGathered r b → AreGathered rs bs → AreGathered (r ∷ rs) (b ∷ bs)

-- a statement where it stands, under the defaults before it
module _ {K C V D : Type 0} (rules : Rules K C V D) (d : D) (placed : Placed) where
  abbrev pub placed_offers : List (Offer K C V)
  placed_offers = rules.offers d placed.place placed.stated.now

  abbrev pub placed_faults : List Fault
  placed_faults = rules.faults d placed.place placed.stated.now

  abbrev pub placed_next : D
  placed_next = rules.next d placed.stated.now

-- an entry of a map, under the defaults before it
module _ {K C V D : Type 0} (eq : K → K → Bool) (rules : Rules K C V D) (moves : Moves K C) (bodies : List Body) (place : Place) where
  abbrev pub entry_offers : D → Entry → List (Offer K C V)
  entry_offers d (Own stated) = rules.offers d place stated.now
  entry_offers d (Include mode links) = gathered eq mode (offers_of eq rules moves (links_body bodies links.items))

  abbrev pub entry_faults : D → Entry → List Fault
  entry_faults d (Own stated) = rules.faults d place stated.now
  entry_faults d (Include mode links) = faults_of eq rules moves (links_body bodies links.items)

-- the defaults after an entry
abbrev pub entry_next : {K C V D : Type 0} → Rules K C V D → D → Entry → D
entry_next rules d (Own stated) = rules.next d stated.now
entry_next rules d (Include mode links) = d

-- the mode and the parts of an include; no parts of a statement
abbrev pub included_by : Entry → Mode × List Link
included_by (Own stated) = (Augment, [])
included_by (Include mode links) = (mode, links.items)

-- what the entry at a place includes
abbrev pub included_at : List Entry → ℕ → Option (Mode × List Link)
included_at es place = option_map included_by (slice_get es place)

-- an include under override or replace stands before a place and after it
pub record StandsBetween (es : List Entry) (place : ℕ) (included : Mode × List Link) : Type 0 where
  pub strong : is_strong included.0 ≡ true
  pub first : ℕ
  pub before : first < place
  pub first_is : included_at es first ≡ Some included
  pub last : ℕ
  pub behind : place < last
  pub last_is : included_at es last ≡ Some included

-- an include under augment stands at a place before another, and not before a third
pub record StoodAt (es : List Entry) (since place at : ℕ) (included : Mode × List Link) : Type 0 where
  pub some : 1 ≤ length included.1
  pub weak : is_strong included.0 ≡ false
  pub from : since ≤ at
  pub before : at < place
  pub is : included_at es at ≡ Some included

-- the same of a part of an include's text
pub record PartStandsSince (ls : List Link) (since place : ℕ) (link : Link) : Type 0 where
  pub weak : is_strong link.mode ≡ false
  pub at : ℕ
  pub from : since ≤ at
  pub before : at < place
  pub is : slice_get ls at ≡ Some link

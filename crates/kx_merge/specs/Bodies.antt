-- What an expanded body offers, statement by statement and include by include, and its faults.
use Rattle.std.specs.Prelude.{ℕ, Bool, List, [], ◌∷◌, ◌++◌, map, Option, None, Some}
use Rattle.std.specs.List.{flat_map}
use Rattle.std.specs.Option.{option_and_then, option_map_or}
use Rattle.kx_lex.specs.declared.fault.Fault.{Fault}
use Rattle.kx_tree.specs.declared.tree.Mode.{Mode}
use Rattle.kx_tree.specs.declared.tree.Stated.{Stated}
use Rattle.kx_include.specs.Expansion.{Body, End, Begin, Own, Inc}
use Rattle.kx_include.specs.declared.place.Place.{Place}
use Rattle.kx_merge.specs.Offers.{Offer, value_of, width_of, names_of}

-- what statements of a kind say: the defaults at a section's start and after a statement, its offers and its faults under those before it
pub record Rules (K C V D : Type 0) : Type 0 where
  pub start : D
  pub next : D → Stated → D
  pub offers : D → Place → Stated → List (Offer K C V)
  pub faults : D → Place → Stated → List Fault

-- what moving a map to a group does: to which record one goes, if any, and which cell and group of the map's becomes this one
pub record Moves (K C : Type 0) : Type 0 where
  pub key : ℕ → K → Option K
  pub cell : ℕ → C → Option C
  pub group : ℕ → ℕ → Option ℕ

-- a move to a group leaves what has no group
abbrev pub no_moves : {K C : Type 0} → Moves K C
no_moves = record { key = λ n k. Some k; cell = λ n c. Some c; group = λ n g. None }

module _ {K C V : Type 0} (moves : Moves K C) where
  abbrev pub moved_to : ℕ → Offer K C V → K → Offer K C V
  moved_to n o k = record { mode = o.mode; name = k; value = λ c. option_and_then o.value (moves.cell n c); width = λ g. option_map_or o.width (moves.group n g) 0 }

  abbrev pub moved : Option ℕ → List (Offer K C V) → List (Offer K C V)
  moved None os = os
  moved (Some n) os = flat_map (λ o. option_map_or (λ k. moved_to n o k ∷ []) (moves.key n o.name) []) os

module _ {K C V : Type 0} (eq : K → K → Bool) (mode : Mode) (os : List (Offer K C V)) where
  -- all that some offers leave, as one offer to each record
  abbrev pub gathered : List (Offer K C V)
  gathered = map (λ k. record { mode = mode; name = k; value = value_of eq os k; width = width_of eq os k }) (names_of eq os)

module _ {K C V D : Type 0} (eq : K → K → Bool) (rules : Rules K C V D) (moves : Moves K C) where
  -- under the defaults before it; those of a section are its own
  abbrev pub offers : D → Body → List (Offer K C V)
  offers d End = []
  offers d (Begin rest) = offers rules.start rest
  offers d (Own place stated rest) = rules.offers d place stated ++ offers (rules.next d stated) rest
  offers d (Inc mode group body rest) = moved moves group (gathered eq mode (offers rules.start body)) ++ offers d rest

  -- of each statement, hidden or not, in the source or in a file that is included
  abbrev pub faults : D → Body → List Fault
  faults d End = []
  faults d (Begin rest) = faults rules.start rest
  faults d (Own place stated rest) = rules.faults d place stated ++ faults (rules.next d stated) rest
  faults d (Inc mode group body rest) = faults rules.start body ++ faults d rest

  abbrev pub offers_of : Body → List (Offer K C V)
  offers_of body = offers rules.start body

  abbrev pub faults_of : Body → List Fault
  faults_of body = faults rules.start body

-- ---- Under names, for clauses and proofs

abbrev pub gather : {K C V : Type 0} → (eq : K → K → Bool) → (mode : Mode) → (os : List (Offer K C V)) → K → Offer K C V
gather eq mode os k = record { mode = mode; name = k; value = value_of eq os k; width = width_of eq os k }

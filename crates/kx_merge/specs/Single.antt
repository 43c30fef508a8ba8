-- Records of one value: nothing in a section is their default, and moving a map to a group leaves or takes them whole.
use Rattle.std.specs.Prelude.{ℕ, List, Option, Some, None}
use Rattle.kx_include.specs.declared.place.Place.{Place}
use Rattle.kx_lex.specs.declared.fault.Fault.{Fault}
use Rattle.kx_merge.specs.Bodies.{Moves, Rules}
use Rattle.kx_merge.specs.Offers.{Offer}
use Rattle.kx_merge.specs.Records.{Form}
use Rattle.kx_merge.specs.declared.single.Single.{Single}
use Rattle.kx_tree.specs.declared.tree.Stated.{Stated}

module _ {K V : Type 0} where
  abbrev pub single_rules : (Place → Stated → List (Offer K (Unit {0}) V)) → (Place → Stated → List Fault) → Rules K (Unit {0}) V (Unit {0})
  single_rules offers faults = record { start = tt; next = λ d stated. tt; offers = λ d place stated. offers place stated; faults = λ d place stated. faults place stated }

-- to which record one goes, if any
abbrev pub single_moves : {K : Type 0} → (ℕ → K → Option K) → Moves K (Unit {0})
single_moves moved = record { key = moved; cell = λ n c. Some c; group = λ n g. None }

abbrev pub single_form : {V : Type 0} → Form (Single V) (Unit {0}) V
single_form = record { cell = λ r c. r.value; width = λ r g. 0 }

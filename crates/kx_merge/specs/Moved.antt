-- What a record of a map gives where the map is moved to a group, or isn't moved.
use Rattle.std.specs.Prelude.{◌≡◌, ℕ, List, [], ◌∷◌, Option, None, Some}
use Rattle.std.specs.Option.{option_and_then, option_map_or}
use Rattle.kx_tree.specs.declared.tree.Mode.{Mode}
use Rattle.kx_merge.specs.Bodies.{Moves, moved_to}
use Rattle.kx_merge.specs.Offers.{Offer}
use Rattle.kx_merge.specs.Records.{Form}

module _ {K C : Type 0} (moves : Moves K C) where
  -- the record that it goes to, if any
  abbrev pub moved_key : Option ℕ → K → Option K
  moved_key None k = Some k
  moved_key (Some n) k = moves.key n k

  abbrev pub moved_value : {V : Type 0} → Option ℕ → (C → Option V) → C → Option V
  moved_value None value c = value c
  moved_value (Some n) value c = option_and_then value (moves.cell n c)

  abbrev pub moved_width : Option ℕ → (ℕ → ℕ) → ℕ → ℕ
  moved_width None width g = width g
  moved_width (Some n) width g = option_map_or width (moves.group n g) 0

-- a record, where its map is moved, and what tells it apart are an offer
pub record IsOfferedMoved {K C V R : Type 0} (form : Form R C V) (moves : Moves K C) (mode : Mode) (group : Option ℕ) (key : K) (r : R) (o : Offer K C V) : Type 0 where
  pub mode_is : o.mode ≡ mode
  pub name_is : o.name ≡ key
  pub value_is : (c : C) → o.value c ≡ moved_value moves group (form.cell r) c
  pub width_is : (g : ℕ) → o.width g ≡ moved_width moves group (form.width r) g

-- an offer moved to a record, if it goes to one
abbrev pub moved_one : {K C V : Type 0} → Moves K C → ℕ → Offer K C V → Option K → List (Offer K C V)
moved_one moves n o to = option_map_or (λ k. moved_to moves n o k ∷ []) to []

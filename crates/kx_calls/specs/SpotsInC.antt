-- Where a keymap gives a keysym, as C reads it.
use Rattle.std.specs.Prelude.{ℕ, ◌≡◌, ◌<◌, ◌≤◌, ◌++◌, [], ◌∷◌, List, drop, length, map}
use Rattle.std.specs.List.{Contains}
use Rattle.kx_text.specs.Finding.{Gives}
use Rattle.kx_text.specs.declared.finding.Spot.{Spot}
use Rattle.kx_tables.specs.Content.{Content}
use Rattle.kx_calls.specs.declared.spots.XkcSpot.{XkcSpot}
use Rattle.kx_calls.specs.declared.status.TheConstants.{OK, ROOM}

abbrev pub spot_in_c : Spot → XkcSpot
spot_in_c spot = record { key = spot.key; group = spot.group; level = spot.level }

-- all places at which a keysym is given, and no other
pub record AreSpots (content : Content) (keysym : ℕ) (spots : List Spot) : Type 0 where
  pub each : (spot : Spot) → Contains spots spot → Gives content (keysym ∷ []) spot
  pub all : (spot : Spot) → Gives content (keysym ∷ []) spot → Contains spots spot

-- they are told where there is room for all of them, in front of what else is there, and counted in any case
pub record TellsSpots (spots : List Spot) (before after : List XkcSpot) (count status : ℕ) : Type 0 where
  pub counted : count ≡ length spots
  pub told : length spots ≤ length before → (after ≡ map spot_in_c spots ++ drop (length spots) before) × (status ≡ OK)
  pub refused : length before < length spots → (after ≡ before) × (status ≡ ROOM)

-- What is true of a keyboard after any events.
use Rattle.std.specs.Prelude.{◌≡◌, ℕ, ◌==◌, ◌<◌, ◌≤◌, ◌≤ℤ◌, Bool, true, false, if◌then◌else◌, List, [], ◌∷◌, length, pos, negsuc}
use Rattle.kx_tables.specs.Keymap.{Keymap}
use Rattle.kx_run.specs.declared.direction.Direction.{Direction}
use Rattle.kx_run.specs.declared.direction.Direction.TheVariants.{Down, Up}
use Rattle.kx_run.specs.declared.direction.Event.{Event}
use Rattle.kx_run.specs.Held.{AreDistinct, base_group, base_mods, count_of}
use Rattle.kx_run.specs.World.{World}
use Rattle.kx_basics.specs.declared.limits.TheConstants.{CODES}

-- no key is held twice; at most 4,096 keys are held, and at most as many set a modifier; the base group lies within
-- 131,072 of 0
pub record IsBounded (world : World) : Type 0 where
  pub distinct : AreDistinct world.held
  pub few : length world.held ≤ CODES
  pub counts : (bit : ℕ) → count_of bit world.held ≤ CODES
  pub low : negsuc 131071 ≤ℤ base_group world.held
  pub high : base_group world.held ≤ℤ pos 131072

-- whether a direction leaves a key down
abbrev pub is_down : Direction → Bool
is_down Down = true
is_down Up = false

-- whether a code's key is down after events, where it was down or up before them: its last event tells
abbrev pub down_after : ℕ → Bool → List Event → Bool
down_after code before [] = before
down_after code before (event ∷ events) =
    down_after code (if event.code == code then is_down event.direction else before) events

-- every key that the events press is released after its last press
abbrev pub ReleasesAll : List Event → Type 0
ReleasesAll events = (code : ℕ) → down_after code false events ≡ false

-- nothing is held: no base modifiers, and base group 0
pub record IsLetGo (world : World) : Type 0 where
  pub held : world.held ≡ []
  pub mods : base_mods world.held ≡ 0
  pub group : base_group world.held ≡ pos 0

-- two keymaps tell a keyboard the same: of known codes, at groups below their number
pub record Agree (a b : Keymap) : Type 0 where
  pub some_group : 1 ≤ a.groups
  pub groups : a.groups ≡ b.groups
  pub known : (code : ℕ) → a.known code ≡ b.known code
  pub shown : (code group mods : ℕ) → a.known code ≡ true → group < a.groups → a.shown code group mods ≡ b.shown code group mods
  pub indicator_maps : a.indicator_maps ≡ b.indicator_maps

-- What a keyboard answers: the state that it shows, its lit indicators, and its replies to events.
use Rattle.std.specs.Prelude.{ℕ, ◌+◌, ◌*◌, ◌%◌, ◌==◌, Bool, false, true, not, ◌&&◌, ◌||◌, if◌then◌else◌, List, [], ◌∷◌, ℤ, pos, ◌+ℤ◌}
use Rattle.std.specs.Int.{bit_at}
use Rattle.std.specs.Int.RustNames.{bit_and, bit_or}
use Rattle.kx_mods.specs.Mods.{mask}
use Rattle.kx_tables.specs.Keymap.{Keymap, IndicatorMap}
use Rattle.kx_run.specs.declared.direction.Event.{Event}
use Rattle.kx_run.specs.declared.direction.Direction.{Direction}
use Rattle.kx_run.specs.declared.reply.Components.{Components}
use Rattle.kx_run.specs.declared.reply.Look.{Look}
use Rattle.kx_run.specs.declared.reply.Reply.{Reply}
use Rattle.kx_run.specs.Held.{base_mods, base_group}
use Rattle.kx_run.specs.World.{World, group_modulo, effective_group, step}

-- ---- The state that is shown

pub record Status : Type 0 where
  pub base : ℕ
  pub latched : ℕ
  pub locked : ℕ
  pub base_group : ℤ
  pub latched_group : ℕ
  pub locked_group : ℕ
  pub effective_group : ℕ

abbrev pub status_of : ℕ → World → Status
status_of groups world =
    record {
      base = base_mods world.held;
      latched = world.latched;
      locked = world.locked;
      base_group = base_group world.held;
      latched_group = world.latched_group;
      locked_group = world.locked_group;
      effective_group = effective_group groups world;
    }

-- what components say
abbrev pub told : Components → Status
told c =
    record {
      base = mask c.base;
      latched = mask c.latched;
      locked = mask c.locked;
      base_group = c.base_group;
      latched_group = c.latched_group;
      locked_group = c.locked_group;
      effective_group = c.effective_group;
    }

-- the modifiers and the group that keys take in a state: the three together; the effective group that it was told with isn't read
abbrev pub status_mods : Status → ℕ
status_mods s = bit_or (bit_or s.base s.latched) s.locked

abbrev pub status_group : ℕ → Status → ℕ
status_group groups s = group_modulo groups (s.base_group +ℤ pos s.latched_group +ℤ pos s.locked_group)

-- ---- Indicators

abbrev pub has_bit : ℕ → ℕ → Bool
has_bit mask bit = bit_at mask bit == 1

-- the modifiers of the chosen parts of a state: bit 0 chooses base, bit 1 latched, bit 2 locked, bit 3 effective
abbrev pub chosen_mods : ℕ → Status → ℕ
chosen_mods parts s =
    bit_or
    (bit_or (if has_bit parts 0 then s.base else 0) (if has_bit parts 1 then s.latched else 0))
    (bit_or (if has_bit parts 2 then s.locked else 0) (if has_bit parts 3 then status_mods s else 0))

-- whether the group of a chosen part is one of the groups, whose bit i is group i, from 0
abbrev pub has_chosen_group : ℕ → ℕ → ℕ → Status → Bool
has_chosen_group count groups parts s =
    (has_bit parts 0 && has_bit groups (group_modulo count s.base_group))
    || (has_bit parts 1 && has_bit groups (s.latched_group % count))
    || (has_bit parts 2 && has_bit groups (s.locked_group % count))
    || (has_bit parts 3 && has_bit groups (status_group count s))

-- an indicator is lit when its modifiers meet those of the parts that it looks at, or its groups hold the group of one
abbrev pub is_lit : ℕ → Status → IndicatorMap → Bool
is_lit count s indicator_map = not (bit_and indicator_map.mods (chosen_mods indicator_map.mod_states s) == 0) || has_chosen_group count indicator_map.groups indicator_map.group_states s

-- the lit indicators as a mask: bit i is indicator i
abbrev pub lit_mask : ℕ → Status → List IndicatorMap → ℕ
lit_mask count s [] = 0
lit_mask count s (indicator_map ∷ indicator_maps) = (if is_lit count s indicator_map then 1 else 0) + 2 * lit_mask count s indicator_maps

-- ---- Replies

-- what a keycode gives in a state
pub record Glance : Type 0 where
  pub known : Bool
  pub syms : List ℕ
  pub consumed : ℕ

abbrev pub look_at : Keymap → Status → ℕ → Glance
look_at keymap s code =
    let shown = keymap.shown code (status_group keymap.groups s) (status_mods s) in
    if keymap.known code then record { known = true; syms = shown.syms; consumed = shown.consumed }
    else record { known = false; syms = []; consumed = 0 }

abbrev pub looked : Look → Glance
looked look = record { known = look.known; syms = look.syms.items; consumed = mask look.consumed }

-- a reply: what the key gives in the state before the event, and the state and the lit indicators after it
pub record Answer : Type 0 where
  pub look : Glance
  pub state : Status
  pub lit : ℕ

abbrev pub status_in : Keymap → World → Status
status_in keymap world = status_of keymap.groups world

abbrev pub answer : Keymap → World → ℕ → Direction → Answer
answer keymap world code direction =
    let after = status_in keymap (step keymap world code direction) in
    record { look = look_at keymap (status_in keymap world) code; state = after; lit = lit_mask keymap.groups after keymap.indicator_maps }

abbrev pub answered : Reply → Answer
answered reply =
    record {
      look = record { known = reply.known; syms = reply.syms.items; consumed = mask reply.consumed };
      state = told reply.state;
      lit = reply.lit;
    }

-- ---- Runs

abbrev pub run : Keymap → World → List Event → List Answer
run keymap world [] = []
run keymap world (event ∷ events) = answer keymap world event.code event.direction ∷ run keymap (step keymap world event.code event.direction) events

-- the state after a list of events
abbrev pub world_after : Keymap → World → List Event → World
world_after keymap world [] = world
world_after keymap world (event ∷ events) =
    world_after keymap (step keymap world event.code event.direction) events

-- ---- Under names, for clauses and proofs

abbrev pub unknown : Glance
unknown = record { known = false; syms = []; consumed = 0 }

abbrev pub lit_in : Keymap → Status → ℕ
lit_in keymap s = lit_mask keymap.groups s keymap.indicator_maps

-- Rows of tables as structs of C.
use Rattle.std.specs.Prelude.{ℕ, ℤ, pos, Bool, false, true, List, Option, None, slice_get, if◌then◌else◌, ◌==◌}
use Rattle.std.specs.Option.{option_map}
use Rattle.kx_mods.specs.Mods.{mask}
use Rattle.kx_tables.specs.Content.{Content, group_name, indicator_name, key_name, type_name}
use Rattle.kx_tables.specs.States.{state_bits}
use Rattle.kx_tables.specs.declared.rows.Action.{Action}
use Rattle.kx_tables.specs.declared.rows.Action.TheVariants as actions
use Rattle.kx_tables.specs.declared.rows.CellRow.{CellRow}
use Rattle.kx_tables.specs.declared.rows.EntryRow.{EntryRow}
use Rattle.kx_tables.specs.declared.rows.GroupChange.{GroupChange}
use Rattle.kx_tables.specs.declared.rows.GroupChange.TheVariants.{Absolute, Relative}
use Rattle.kx_tables.specs.declared.rows.GroupRow.{GroupRow}
use Rattle.kx_tables.specs.declared.rows.IndicatorRow.{IndicatorRow}
use Rattle.kx_tables.specs.declared.rows.KeyRow.{KeyRow}
use Rattle.kx_tables.specs.declared.rows.Range.{Range}
use Rattle.kx_tables.specs.declared.rows.Range.TheVariants.{Clamp, Redirect, Wrap}
use Rattle.kx_tables.specs.declared.rows.TypeRow.{TypeRow}
use Rattle.kx_tables.specs.declared.tables.Counts.{Counts}
use Rattle.kx_calls.specs.InC.{byte}
use Rattle.kx_calls.specs.declared.row.XkcAction.{XkcAction}
use Rattle.kx_calls.specs.declared.row.XkcCounts.{XkcCounts}
use Rattle.kx_calls.specs.declared.row.XkcEntry.{XkcEntry}
use Rattle.kx_calls.specs.declared.row.XkcGroup.{XkcGroup}
use Rattle.kx_calls.specs.declared.row.XkcIndicator.{XkcIndicator}
use Rattle.kx_calls.specs.declared.row.XkcKey.{XkcKey}
use Rattle.kx_calls.specs.declared.row.XkcLevel.{XkcLevel}
use Rattle.kx_calls.specs.declared.row.XkcType.{XkcType}

abbrev pub counts_in_c : Counts → XkcCounts
counts_in_c c = record {
  types = c.types;
  entries = c.entries;
  keys = c.keys;
  groups = c.groups;
  levels = c.cells;
  keysyms = c.keysyms;
  indicators = c.indicators;
  group_names = c.group_names;
}

abbrev pub type_in_c : TypeRow → XkcType
type_in_c t = record { first_entry = t.first_entry; entries = t.entries; mods = mask t.mods; levels = t.levels }

abbrev pub entry_in_c : EntryRow → XkcEntry
entry_in_c e = record { mods = mask e.mods; level = e.level; preserve = mask e.preserve }

abbrev pub range_number : Range → ℕ
range_number Wrap = 0
range_number Clamp = 1
range_number (Redirect group) = 2

abbrev pub redirect_of : Range → ℕ
redirect_of Wrap = 0
redirect_of Clamp = 0
redirect_of (Redirect group) = group

abbrev pub key_in_c : KeyRow → XkcKey
key_in_c k = record {
  code = k.code;
  first_group = k.first_group;
  groups = k.groups;
  modmap = mask k.modmap;
  range = range_number k.range;
  redirect = redirect_of k.range;
}

abbrev pub group_in_c : GroupRow → XkcGroup
group_in_c g = record { first_level = g.first_cell; key_type = g.key_type }

abbrev pub group_number : GroupChange → ℤ
group_number (Absolute group) = pos group
group_number (Relative groups) = groups

abbrev pub is_relative : GroupChange → Bool
is_relative (Absolute group) = false
is_relative (Relative groups) = true

abbrev pub no_action : XkcAction
no_action = record { group = pos 0; kind = 0; mods = 0; is_relative = 0; clear_locks = 0; latch_to_lock = 0; locks = 0; unlocks = 0 }

abbrev pub group_action_in_c : ℕ → GroupChange → Bool → Bool → XkcAction
group_action_in_c kind group clear_locks latch_to_lock = record no_action {
  group = group_number group;
  kind = kind;
  is_relative = byte (is_relative group);
  clear_locks = byte clear_locks;
  latch_to_lock = byte latch_to_lock;
}

abbrev pub action_in_c : Action → XkcAction
action_in_c actions.None = no_action
action_in_c (actions.SetMods mods clear_locks) = record no_action { kind = 1; mods = mask mods; clear_locks = byte clear_locks }
action_in_c (actions.LatchMods mods clear_locks latch_to_lock) =
    record no_action { kind = 2; mods = mask mods; clear_locks = byte clear_locks; latch_to_lock = byte latch_to_lock }
action_in_c (actions.LockMods mods locks unlocks) = record no_action { kind = 3; mods = mask mods; locks = byte locks; unlocks = byte unlocks }
action_in_c (actions.SetGroup group clear_locks) = group_action_in_c 4 group clear_locks false
action_in_c (actions.LatchGroup group clear_locks latch_to_lock) = group_action_in_c 5 group clear_locks latch_to_lock
action_in_c (actions.LockGroup group) = group_action_in_c 6 group false false

abbrev pub level_in_c : CellRow → XkcLevel
level_in_c c = record { action = action_in_c c.action; first_keysym = c.first_keysym; keysyms = c.keysyms }

abbrev pub indicator_in_c : IndicatorRow → XkcIndicator
indicator_in_c i = record { groups = i.groups; mods = mask i.mods; mod_states = state_bits i.mod_states; group_states = state_bits i.group_states }

-- the name of a row: of a key (0), a key type (1), an indicator (2) or a group (3)
abbrev pub name_in : Content → ℕ → ℕ → Option (List ℕ)
name_in c kind index =
    if kind == 0 then option_map (key_name c) (slice_get c.keys index)
    else if kind == 1 then option_map (type_name c) (slice_get c.types index)
    else if kind == 2 then option_map (indicator_name c) (slice_get c.indicators index)
    else if kind == 3 then option_map (group_name c) (slice_get c.group_names index)
    else None

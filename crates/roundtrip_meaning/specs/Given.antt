-- What a printed key is given, and what its actions are in the tree of actions.
use Rattle.std.specs.Prelude.{ℕ, ◌≡◌, Bool, true, false, [], Some, length, slice_get, unwrap_or}
use Rattle.std.specs.Option.{option_map_or}
use Rattle.kx_actions.specs.declared.action.ActionMods.TheVariants.{Named}
use Rattle.kx_actions.specs.declared.action.Affect.{Affect}
use Rattle.kx_actions.specs.declared.action.Affect.TheVariants.{Lock, Unlock, Both, Neither}
use Rattle.kx_actions.specs.declared.action.KeyAction.{KeyAction}
use Rattle.kx_actions.specs.declared.action.KeyAction.TheVariants as said
use Rattle.kx_builder.specs.Resolved.{ResolvedCell}
use Rattle.kx_mods.specs.Mods.{mask}
use Rattle.kx_symbols.specs.Actions.{defined}
use Rattle.kx_tables.specs.declared.rows.Action.{Action}
use Rattle.kx_tables.specs.declared.rows.Action.TheVariants as rows
use Rattle.kx_keys.specs.Given.{KeyGiven}
use Rattle.roundtrip_text.specs.Source.{PrintedGroup, PrintedKey, cell_at}

-- what is locked and unlocked, as one word says it
abbrev pub affected_of : Bool → Bool → Affect
affected_of true true = Both
affected_of true false = Lock
affected_of false true = Unlock
affected_of false false = Neither

abbrev pub key_action : Action → KeyAction
key_action rows.None = said.NoAction
key_action (rows.SetMods mods clear_locks) = said.SetMods (Named (mask mods)) clear_locks
key_action (rows.LatchMods mods clear_locks latch_to_lock) = said.LatchMods (Named (mask mods)) clear_locks latch_to_lock
key_action (rows.LockMods mods locks unlocks) = said.LockMods (Named (mask mods)) (affected_of locks unlocks)
key_action (rows.SetGroup group clear_locks) = said.SetGroup group clear_locks
key_action (rows.LatchGroup group clear_locks latch_to_lock) = said.LatchGroup group clear_locks latch_to_lock
key_action (rows.LockGroup group) = said.LockGroup group

-- a level whose action is none is given none
pub record IsGiven (k : PrintedKey) (g : KeyGiven) : Type 0 where
  pub width_is : (group : ℕ) → g.width group ≡ option_map_or (λ (p : PrintedGroup). length p.cells) (slice_get k.groups group) 0
  pub keysyms_are : (group level : ℕ) (d : ResolvedCell) → cell_at k group level ≡ Some d → unwrap_or (g.keysyms group level) [] ≡ d.syms
  pub action_is : (group level : ℕ) (d : ResolvedCell) → cell_at k group level ≡ Some d → g.action group level ≡ defined (key_action d.action)
  pub type_is : (group : ℕ) (p : PrintedGroup) → slice_get k.groups group ≡ Some p → g.group_type group ≡ Some p.type_name
  pub range_is : g.range ≡ k.range

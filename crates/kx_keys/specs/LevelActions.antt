-- What actions do on a key, over sets of modifiers.
use Rattle.std.specs.Prelude.{ℕ, List}
use Rattle.std.specs.Option.{option_map_or}
use Rattle.kx_actions.specs.Becoming.{does_lock, does_unlock}
use Rattle.kx_actions.specs.declared.action.ActionMods.{ActionMods}
use Rattle.kx_actions.specs.declared.action.ActionMods.TheVariants.{Named, OfKey}
use Rattle.kx_actions.specs.declared.action.KeyAction.{KeyAction}
use Rattle.kx_actions.specs.declared.action.KeyAction.TheVariants as actions
use Rattle.kx_keys.specs.Vmodmap.{level_action_at}
use Rattle.kx_compat.specs.Interpretations.{Interpretation}
use Rattle.kx_keys.specs.Rows.{mods_of}
use Rattle.kx_keys.specs.Selecting.{RealSet}
use Rattle.kx_virtual_mods.specs.Sets.{has}
use Rattle.kx_mods.specs.Mods.{mask}
use Rattle.kx_mods.specs.declared.mods.Mods.{Mods}
use Rattle.kx_tables.specs.declared.rows.Action.{Action}
use Rattle.kx_tables.specs.declared.rows.Action.TheVariants as rows
use Rattle.kx_keys.specs.Given.{KeyGiven}

-- what each level of a key does, by group and level, both counted from 0
abbrev pub LevelActions : Type 0
LevelActions = ℕ → ℕ → Action

-- `modmap` are the modifiers that the key is mapped to, `real` is what a set of modifiers stands for
module _ (modmap : RealSet) (real : ℕ → RealSet) where
  abbrev pub about : ActionMods → RealSet
  about (Named set) = real set
  about OfKey = modmap

  -- an action of another name does nothing
  abbrev pub action_meant : KeyAction → Action
  action_meant actions.NoAction = rows.None
  action_meant actions.Other = rows.None
  action_meant (actions.SetMods mods clear) = rows.SetMods (mods_of (about mods)) clear
  action_meant (actions.LatchMods mods clear latch) = rows.LatchMods (mods_of (about mods)) clear latch
  action_meant (actions.LockMods mods affected) = rows.LockMods (mods_of (about mods)) (does_lock affected) (does_unlock affected)
  action_meant (actions.SetGroup change clear) = rows.SetGroup change clear
  action_meant (actions.LatchGroup change clear latch) = rows.LatchGroup change clear latch
  action_meant (actions.LockGroup change) = rows.LockGroup change

-- what the levels of a key do, by its own actions or by interpretations; `modmap` are the modifiers that it is mapped to
abbrev pub level_actions_of : (ℕ → RealSet) → List Interpretation → Mods → KeyGiven → LevelActions
level_actions_of real interpretations modmap key group level = option_map_or (action_meant (has (mask modmap)) real) (level_action_at interpretations modmap key group level) rows.None

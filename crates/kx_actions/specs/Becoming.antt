-- The row of tables that an action becomes on a key.
use Rattle.std.specs.Prelude.{◌≡◌, ℕ, Bool, ◌||◌, List}
use Rattle.kx_virtual_mods.specs.Sets.{has, real_of}
use Rattle.kx_virtual_mods.specs.Standing.{stands_for}
use Rattle.kx_mods.specs.Mods.{mask}
use Rattle.kx_mods.specs.declared.mods.Mods.{Mods}
use Rattle.kx_tables.specs.declared.rows.Action.{Action}
use Rattle.kx_tables.specs.declared.rows.Action.TheVariants as rows
use Rattle.kx_actions.specs.contracts.action.AffectPartialEq.TheImpl.{ghosts}
use Rattle.kx_actions.specs.declared.action.ActionMods.{ActionMods}
use Rattle.kx_actions.specs.declared.action.ActionMods.TheVariants.{Named, OfKey}
use Rattle.kx_actions.specs.declared.action.Affect.{Affect}
use Rattle.kx_actions.specs.declared.action.Affect.TheVariants.{Lock, Unlock, Both}
use Rattle.kx_actions.specs.declared.action.KeyAction.{KeyAction}
use Rattle.kx_actions.specs.declared.action.KeyAction.TheVariants as actions

-- whether the modifiers are locked at the press
abbrev pub does_lock : Affect → Bool
does_lock affect = ghosts.eq affect Lock || ghosts.eq affect Both

-- whether those that were locked before are unlocked at the release
abbrev pub does_unlock : Affect → Bool
does_unlock affect = ghosts.eq affect Unlock || ghosts.eq affect Both

-- `modmap` are the modifiers that the key is mapped to, `stands` what each virtual modifier stands for, by its number
module _ (modmap : Mods) (stands : List Mods) where
  -- whether an action is about a real modifier
  abbrev pub is_about : ActionMods → ℕ → Bool
  is_about (Named set) real = real_of (stands_for stands) set real
  is_about OfKey real = has (mask modmap) real

  abbrev pub AreMods : ActionMods → Mods → Type 0
  AreMods mods row = (real : ℕ) → has (mask row) real ≡ is_about mods real

  -- an action without effect becomes none; another keeps its group and flags, and is about the same real modifiers
  abbrev pub Becomes : KeyAction → Action → Type 0
  Becomes actions.NoAction row = row ≡ rows.None
  Becomes actions.Other row = row ≡ rows.None
  Becomes (actions.SetMods mods clear) row = (m : Mods) × AreMods mods m × (row ≡ rows.SetMods m clear)
  Becomes (actions.LatchMods mods clear latch) row = (m : Mods) × AreMods mods m × (row ≡ rows.LatchMods m clear latch)
  Becomes (actions.LockMods mods affected) row = (m : Mods) × AreMods mods m × (row ≡ rows.LockMods m (does_lock affected) (does_unlock affected))
  Becomes (actions.SetGroup change clear) row = row ≡ rows.SetGroup change clear
  Becomes (actions.LatchGroup change clear latch) row = row ≡ rows.LatchGroup change clear latch
  Becomes (actions.LockGroup change) row = row ≡ rows.LockGroup change

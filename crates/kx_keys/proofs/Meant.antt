-- An action becomes what it is meant to be.
use Rattle.std.proofs.Common.{◌≡◌, ◌<◌, ◌^◌, List, subst, ap, ◌∙◌}
use Rattle.kx_actions.specs.Becoming.{AreMods, Becomes, does_lock, does_unlock}
use Rattle.kx_actions.specs.declared.action.ActionMods.{ActionMods}
use Rattle.kx_actions.specs.declared.action.ActionMods.TheVariants.{Named, OfKey}
use Rattle.kx_actions.specs.declared.action.KeyAction.{KeyAction}
use Rattle.kx_actions.specs.declared.action.KeyAction.TheVariants as actions
use Rattle.kx_keys.proofs.Bits.{mods_is}
use Rattle.kx_keys.specs.Rows.{mods_of}
use Rattle.kx_virtual_mods.specs.Sets.{has, real_of}
use Rattle.kx_virtual_mods.specs.Standing.{stands_for}
use Rattle.kx_mods.specs.Mods.{mask}
use Rattle.kx_mods.specs.declared.mods.Mods.{Mods}
use Rattle.kx_keys.specs.LevelActions.{about, action_meant}
use Rattle.kx_tables.specs.Sound.{ActionHolds}
use Rattle.kx_tables.specs.declared.rows.Action.{Action}
use Rattle.kx_tables.specs.declared.rows.Action.TheVariants as rows

module _ (modmap : Mods) (stands : List Mods) where
  mods_meant : (mods : ActionMods) (m : Mods) → mask m < 2 ^ 8 → AreMods modmap stands mods m → m ≡ mods_of (about (has (mask modmap)) (real_of (stands_for stands)) mods)
  mods_meant (Named set) m small are = mods_is m (real_of (stands_for stands) set) small (λ r within. are r)
  mods_meant OfKey m small are = mods_is m (has (mask modmap)) small (λ r within. are r)

  pub becomes_meant : (a : KeyAction) (row : Action) → Becomes modmap stands a row → ActionHolds row → row ≡ action_meant (has (mask modmap)) (real_of (stands_for stands)) a
  becomes_meant actions.NoAction row is holds = is
  becomes_meant actions.Other row is holds = is
  becomes_meant (actions.SetMods mods clear) row is holds = is.2 ∙ ap (λ m. rows.SetMods m clear) (mods_meant mods is.0 (subst ActionHolds is.2 holds) is.1)
  becomes_meant (actions.LatchMods mods clear latch) row is holds = is.2 ∙ ap (λ m. rows.LatchMods m clear latch) (mods_meant mods is.0 (subst ActionHolds is.2 holds) is.1)
  becomes_meant (actions.LockMods mods affected) row is holds = is.2 ∙ ap (λ m. rows.LockMods m (does_lock affected) (does_unlock affected)) (mods_meant mods is.0 (subst ActionHolds is.2 holds) is.1)
  becomes_meant (actions.SetGroup change clear) row is holds = is
  becomes_meant _ row is holds = is

-- What the fields of an action are given, and the last of several that give a field.
use Rattle.std.specs.Prelude.{Bool, List, Option, None, Some}
use Rattle.std.specs.Option.{option_and_then}
use Rattle.kx_tables.specs.declared.rows.GroupChange.{GroupChange}
use Rattle.kx_merge.specs.Last.{last_given}
use Rattle.kx_actions.specs.declared.action.ActionMods.{ActionMods}
use Rattle.kx_actions.specs.declared.action.Affect.{Affect}
use Rattle.kx_actions.specs.declared.settings.Given.{Given}
use Rattle.kx_actions.specs.declared.settings.Given.TheVariants as given
use Rattle.kx_actions.specs.declared.settings.Settings.{Settings}

abbrev pub no_settings : Settings
no_settings = record { modifiers = None; group = None; affect = None; clear_locks = None; latch_to_lock = None }

-- a field that is given anew has what it is given
abbrev pub with_given : Settings → Given → Settings
with_given s (given.Modifiers mods) = record s { modifiers = Some mods }
with_given s (given.Group change) = record s { group = Some change }
with_given s (given.Affect what) = record s { affect = Some what }
with_given s (given.ClearLocks on) = record s { clear_locks = Some on }
with_given s (given.LatchToLock on) = record s { latch_to_lock = Some on }

-- settings with what is given alone
abbrev pub only : Given → Settings
only g = with_given no_settings g

module _ {X : Type 0} (gives : X → Option Given) where
  -- each field has what the last gives that gives it anything, else what it had before them
  abbrev pub last_settings : Settings → List X → Settings
  last_settings before xs = record {
    modifiers = last_given (λ x. option_and_then (λ g. (only g).modifiers) (gives x)) before.modifiers xs;
    group = last_given (λ x. option_and_then (λ g. (only g).group) (gives x)) before.group xs;
    affect = last_given (λ x. option_and_then (λ g. (only g).affect) (gives x)) before.affect xs;
    clear_locks = last_given (λ x. option_and_then (λ g. (only g).clear_locks) (gives x)) before.clear_locks xs;
    latch_to_lock = last_given (λ x. option_and_then (λ g. (only g).latch_to_lock) (gives x)) before.latch_to_lock xs;
  }

-- ---- Under names, for proofs

abbrev pub given_modifiers : Given → Option ActionMods
given_modifiers g = (only g).modifiers

abbrev pub given_group : Given → Option GroupChange
given_group g = (only g).group

abbrev pub given_affect : Given → Option Affect
given_affect g = (only g).affect

abbrev pub given_clear_locks : Given → Option Bool
given_clear_locks g = (only g).clear_locks

abbrev pub given_latch_to_lock : Given → Option Bool
given_latch_to_lock g = (only g).latch_to_lock

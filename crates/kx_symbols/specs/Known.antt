-- What key statements are read against.
use Rattle.std.specs.Prelude.{ℕ, List}
use Rattle.ks_core.specs.Table.{KeysymTable}
use Rattle.kx_actions.specs.Defaults.{no_defaults as no_action_defaults}
use Rattle.kx_actions.specs.declared.defaults.ActionDefaults.{ActionDefaults}
use Rattle.kx_key_fields.specs.Attributes.{Settings, no_settings}

-- what the default statements of a section give actions and keys
pub record Defaults : Type 0 where
  pub actions : ActionDefaults
  pub keys : Settings

abbrev pub no_defaults : Defaults
no_defaults = record { actions = no_action_defaults; keys = no_settings }

-- the names of keysyms, the virtual modifiers by number, and the defaults before the statement in its section
pub record Known : Type 0 where
  pub names : KeysymTable
  pub modifiers : List (List ℕ)
  pub defaults : Defaults

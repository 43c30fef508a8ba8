-- A key with what it is read against.
use Rattle.std.specs.Prelude.{ℕ, ◌&&◌, Bool, List, Option}
use Rattle.kx_actions.specs.declared.action.KeyAction.{KeyAction}
use Rattle.kx_builder.specs.Resolved.{ResolvedCell}
use Rattle.kx_compat.specs.Interpretations.{Interpretation}
use Rattle.kx_mods.specs.Mods.{mask}
use Rattle.kx_mods.specs.declared.mods.Mods.{Mods}
use Rattle.kx_keys.specs.Bounds.{CellsAreValid}
use Rattle.kx_keys.specs.Given.{KeyGiven, given}
use Rattle.kx_keys.specs.GroupTypes.{content_group}
use Rattle.kx_keys.specs.Keys.{cell_of, cells_of}
use Rattle.kx_keys.specs.LevelActions.{LevelActions, level_actions_of}
use Rattle.kx_keys.specs.Standing.{real_by}
use Rattle.kx_keys.specs.Typing.{Typing}
use Rattle.kx_keys.specs.Vmodmap.{gives, interpretation_at, is_given, is_in_vmodmap, level_action_at}
use Rattle.kx_symbols.specs.Keys.{KeyContent}
use Rattle.kx_virtual_mods.specs.Sets.{has}

pub record InterpretedKey : Type 0 where
  -- what statements give it
  pub content : KeyContent
  -- the modifiers that it is mapped to
  pub modmap : Mods
  pub interpretations : List Interpretation
  -- what virtual modifiers stand for, by number
  pub stands : List Mods

module _ (key : InterpretedKey) where
  abbrev pub given_to : KeyGiven
  given_to = given key.content

  abbrev pub interpretation_of : ℕ → ℕ → Option Interpretation
  interpretation_of = interpretation_at key.interpretations key.modmap given_to

  abbrev pub action_said : ℕ → ℕ → Option KeyAction
  action_said = level_action_at key.interpretations key.modmap given_to

  abbrev pub actions_of : LevelActions
  actions_of = level_actions_of (real_by key.stands) key.interpretations key.modmap given_to

  -- a level of a group gives a virtual modifier
  abbrev pub gives_at : ℕ → ℕ → ℕ → Bool
  gives_at number group level = gives number group level (interpretation_of (content_group given_to group) level)

  abbrev pub is_given_to : Typing → ℕ → Bool
  is_given_to = is_given key.interpretations key.modmap given_to

  abbrev pub bears : Typing → ℕ → Bool
  bears = is_in_vmodmap key.interpretations key.modmap given_to

  -- it bears one and is mapped to a real one
  abbrev pub brings_by : Typing → ℕ → ℕ → Bool
  brings_by typing number real = bears typing number && has (mask key.modmap) real

  -- ---- What its levels resolve to

  abbrev pub cell_at : ℕ → ℕ → ResolvedCell
  cell_at = cell_of actions_of given_to

  abbrev pub cells_at : ℕ → ℕ → List ResolvedCell
  cells_at = cells_of actions_of given_to

  abbrev pub LevelsAreValid : ℕ → ℕ → Type 0
  LevelsAreValid = CellsAreValid actions_of given_to

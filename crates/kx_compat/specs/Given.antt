-- What the fields of an interpretation are given; nothing, where they aren't written.
use Rattle.std.specs.Prelude.{ℕ, Bool, Option}
use Rattle.kx_actions.specs.declared.action.KeyAction.{KeyAction}

pub record FieldValues : Type 0 where
  -- `action`
  pub action : Option KeyAction
  -- `virtualModifier`, by its number
  pub modifier : Option ℕ
  -- whether `useModMapMods` is level1
  pub first_level_only : Option Bool

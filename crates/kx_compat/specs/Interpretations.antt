-- Interpretations: what a keymap says of keys with some keysyms and modifiers.
use Rattle.std.specs.Prelude.{ℕ, Bool, Option}
use Rattle.kx_actions.specs.declared.action.KeyAction.{KeyAction}
use Rattle.kx_compat.specs.declared.interpretation_match.InterpretationMatch.{InterpretationMatch}

pub record Interpretation : Type 0 where
  -- for which keys it is
  pub interpretation_match : InterpretationMatch
  -- what a level of such a key does
  pub action : Option KeyAction
  -- the virtual modifier that such a key bears, by its number
  pub modifier : Option ℕ
  -- whether it sees modifiers at the first level alone
  pub first_level_only : Bool

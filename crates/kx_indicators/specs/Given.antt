-- What the fields of an indicator are given; nothing, where they aren't written.
use Rattle.std.specs.Prelude.{ℕ, Option}

pub record IndicatorMapValues : Type 0 where
  -- a set of names of modifiers
  pub modifiers : Option ℕ
  -- masks of states
  pub mod_states : Option ℕ
  pub group_states : Option ℕ
  -- a mask of groups, of which bit 0 is group 1
  pub groups : Option ℕ

-- What the lists of several statements give a key together.
use Rattle.std.specs.Prelude.{ℕ, ◌-◌, nat_lt, List, Option, None, Some, if◌then◌else◌, ◌≡◌}
use Rattle.std.specs.Option.{option_and_then, option_map_or}
use Rattle.kx_key_lists.specs.Lists.{Lists, level_in, list_at, width_in}
use Rattle.kx_merge.specs.ByGroup.{group_before}

-- lists by group, of which the first is that of a group from which on there are any
pub record KeyLists (X : Type 0) : Type 0 where
  pub from : ℕ
  pub lists : Lists X

module _ {X : Type 0} where
  -- what a group and a level have, both counted from 0
  abbrev pub value_in : KeyLists X → ℕ → ℕ → Option X
  value_in key group level = if nat_lt group key.from then None else level_in key.lists (group - key.from) level

  -- how many levels a group has
  abbrev pub width_in_key : KeyLists X → ℕ → ℕ
  width_in_key key group = if nat_lt group key.from then 0 else width_in key.lists (group - key.from)

  abbrev pub list_in_key : KeyLists X → ℕ → Option (List (Option X))
  list_in_key key group = if nat_lt group key.from then None else list_at key.lists (group - key.from)

module _ {X : Type 0} where
  -- what a group and a level have where the map is moved to a group, counted from 1
  abbrev pub moved_in : Option ℕ → KeyLists X → ℕ → ℕ → Option X
  moved_in None key group level = value_in key group level
  moved_in (Some n) key group level = option_and_then (λ g. value_in key g level) (group_before n group)

  abbrev pub moved_width_in : Option ℕ → KeyLists X → ℕ → ℕ
  moved_width_in None key group = width_in_key key group
  moved_width_in (Some n) key group = option_map_or (λ g. width_in_key key g) (group_before n group) 0

  -- whether a group and a level have a value
  abbrev pub HasValue : KeyLists X → Type 0
  HasValue key = (group : ℕ) × (level : ℕ) × (x : X) × (value_in key group level ≡ Some x)

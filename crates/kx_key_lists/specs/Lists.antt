-- Lists of a key statement by group and level, whatever a level gives.
use Rattle.std.specs.Prelude.{ℕ, ◌+◌, ◌-◌, ◌++◌, Bool, false, not, List, length, position, replicate, Option, None, is_some, unwrap_or}
use Rattle.std.specs.List.{list_any}
use Rattle.std.specs.Option.{option_and_then, option_map_or}
use Rattle.kx_merge.specs.ByGroup.{at_group, with_group}

module _ {X : Type 0} where
  -- whether a level of a list has a value
  abbrev pub has_level : Option (List (Option X)) → Bool
  has_level list = option_map_or (λ levels. list_any is_some levels) list false

-- by group, counted from 0, the levels of its list, where it has one
abbrev pub Lists : Type 0 → Type 0
Lists X = List (Option (List (Option X)))

module _ {X : Type 0} where
  abbrev pub list_at : Lists X → ℕ → Option (List (Option X))
  list_at lists group = at_group lists group

  abbrev pub has_list : Lists X → ℕ → Bool
  has_list lists group = is_some (list_at lists group)

  -- the first group without a list
  abbrev pub free_group : Lists X → ℕ
  free_group lists = unwrap_or (position (λ list. not (is_some list)) lists) (length lists)

  -- the level of a group's list, and how many levels it has
  abbrev pub level_in : Lists X → ℕ → ℕ → Option X
  level_in lists group level = option_and_then (λ levels. at_group levels level) (list_at lists group)

  abbrev pub width_in : Lists X → ℕ → ℕ
  width_in lists group = option_map_or length (list_at lists group) 0

-- ---- Under names, for clauses and proofs

module _ {X : Type 0} where
  abbrev pub level_at : List (Option X) → ℕ → Option X
  level_at levels level = at_group levels level

  -- so many groups at least
  abbrev pub widened_to : ℕ → Lists X → Lists X
  widened_to count lists = lists ++ replicate (count - length lists) None

  abbrev pub with_list : Lists X → ℕ → List (Option X) → Lists X
  with_list lists group levels = with_group lists group levels

abbrev pub is_free : {X : Type 0} → Option (List (Option X)) → Bool
is_free list = not (is_some list)

abbrev pub level_of : {X : Type 0} → Option (List (Option X)) → ℕ → Option X
level_of list level = option_and_then (λ levels. at_group levels level) list

abbrev pub width_of : {X : Type 0} → Option (List (Option X)) → ℕ
width_of list = option_map_or length list 0

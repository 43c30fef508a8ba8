-- Which group a list of a key statement is given to, and the faults of its place.
use Rattle.std.specs.Prelude.{ℕ, ◌++◌, nat_le, nat_lt, List, [], ◌∷◌, Option, None, Some, if◌then◌else◌}
use Rattle.std.specs.Option.{option_and_then, option_map_or}
use Rattle.kx_basics.specs.declared.limits.TheConstants.{MOST_GROUPS}
use Rattle.kx_lex.specs.declared.fault.Fault.{Fault}
use Rattle.kx_lex.specs.declared.fault.Fault.TheVariants.{BadValue, GroupRange}
use Rattle.kx_tree.specs.declared.tree.Index.{Index}
use Rattle.kx_tree.specs.declared.tree.List.{List as Listed}
use Rattle.kx_include.specs.IncludeFaults.{at}
use Rattle.kx_merge.specs.Numbers.{number_faults}
use Rattle.kx_merge.specs.declared.numbers.Counted.TheVariants.{Group}
use Rattle.kx_key_lists.specs.Groups.{group_at}
use Rattle.kx_key_lists.specs.Lists.{Lists, free_group, has_list}
use Rattle.kx_merge.specs.ByGroup.{with_group}

module _ {X : Type 0} where
  -- a list without an index is given to the first group that has none, one with an index to its group, where it has none yet
  abbrev pub group_for : Lists X → Option Index → Option ℕ
  group_for lists None = if nat_lt (free_group lists) MOST_GROUPS then Some (free_group lists) else None
  group_for lists (Some index) = option_and_then (λ group. if has_list lists group then None else Some group) (group_at index.value)

  -- a list that is given to no group, as by a faulty index, isn't taken
  abbrev pub given_list : Lists X → Option ℕ → List (Option X) → Lists X
  given_list lists group levels = option_map_or (λ g. with_group lists g levels) group lists

module _ {X : Type 0} (file : ℕ) where
  abbrev pub second_faults : Lists X → Listed → Option ℕ → List Fault
  second_faults lists list None = []
  second_faults lists list (Some group) = if has_list lists group then BadValue (at file list.span) ∷ [] else []

  -- a key has MOST_GROUPS groups at most, and a statement gives each one list of a kind at most
  abbrev pub place_faults : Lists X → Option Index → Listed → List Fault
  place_faults lists None list = if nat_le MOST_GROUPS (free_group lists) then GroupRange (at file list.span) ∷ [] else []
  place_faults lists (Some index) list = number_faults file Group index.value ++ second_faults lists list (group_at index.value)

-- ---- Under a name, for clauses

module _ {X : Type 0} where
  -- a group that has no list yet
  abbrev pub open_group : Lists X → Option ℕ → Option ℕ
  open_group lists group = option_and_then (λ g. if has_list lists g then None else Some g) group

-- What is given to some of the groups, which are counted from 0, and to a group of a map that is moved.
use Rattle.std.specs.Prelude.{ℕ, ◌+◌, ◌-◌, ◌==◌, List, ◌++◌, length, Option, None, Some, if◌then◌else◌, replicate, slice_get, slice_set}
use Rattle.std.specs.Option.{option_and_then}

abbrev pub at_group : {X : Type 0} → List (Option X) → ℕ → Option X
at_group given group = option_and_then (λ o. o) (slice_get given group)

-- a group that is given something anew has that
abbrev pub with_group : {X : Type 0} → List (Option X) → ℕ → X → List (Option X)
with_group given group x = slice_set (given ++ replicate (group + 1 - length given) None) group (Some x)

-- of a map that is moved to a group, counted from 1, the first group becomes that one, and the others go
abbrev pub group_before : ℕ → ℕ → Option ℕ
group_before n group = if group + 1 == n then Some 0 else None

-- The type of a group where the map of its key is moved, or isn't moved.
use Rattle.std.specs.Prelude.{ℕ, List, Option, None, Some}
use Rattle.std.specs.Option.{option_and_then}
use Rattle.kx_key_fields.specs.Attributes.{GroupTypes, type_at}
use Rattle.kx_merge.specs.ByGroup.{group_before}

abbrev pub type_moved : Option ℕ → GroupTypes → ℕ → Option (List ℕ)
type_moved None types group = type_at types group
type_moved (Some n) types group = option_and_then (type_at types) (group_before n group)

use Rattle.std.proofs.Common.{◌≡◌, ◌<◌, fold, length}
use Rattle.kx_builder.specs.Pushes.{last_groups, with_group, with_key}
use Rattle.kx_resolve.specs.Bare.{bare_key}
use Rattle.kx_keys.specs.InterpretedKey.{given_to}
use Rattle.kx_resolve.specs.TypedKeys.{GroupsAreValid, groups_typed}
use Rattle.kx_resolve.proofs.keys.push_key.Given as goal

abbrev pub invariant-groups : goal.invariant-groups
invariant-groups l =
    (l.builder ≡ fold with_group (with_key l.fn.builder (bare_key l.code l.name l.key.modmap (given_to l.key).range)) (groups_typed l.key l.group_types l.group))
    × (0 < length l.builder.keys)
    × (length (last_groups l.builder.keys) ≡ l.group)
    × GroupsAreValid l.key l.group_types l.group

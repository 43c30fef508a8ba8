use Rattle.kx_keys.specs.GroupTypes.{group_levels}
use Rattle.kx_keys.specs.InterpretedKey.{given_to, gives_at}
use Rattle.kx_keys.specs.Standing.{VirtualsAre}
use Rattle.kx_keys.specs.Typing.{typing_of}
use Rattle.kx_virtual_mods.specs.Sets.{any_below}
use Rattle.kx_keys.proofs.interpreted_key.InterpretedKey.given.Given as goal

abbrev pub invariant-groups : goal.invariant-groups
invariant-groups l = VirtualsAre l.set (λ number. any_below l.group (λ group. any_below (group_levels (typing_of l.typing) (given_to l.self) group) (gives_at l.self number group)))

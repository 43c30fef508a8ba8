use Rattle.kx_keys.specs.InterpretedKey.{gives_at}
use Rattle.kx_keys.specs.Standing.{VirtualsAre}
use Rattle.kx_virtual_mods.specs.Sets.{any_below}
use Rattle.kx_keys.proofs.interpreted_key.InterpretedKey.given_levels.Given as goal

abbrev pub invariant-levels : goal.invariant-levels
invariant-levels l = VirtualsAre l.set (λ number. any_below l.level (gives_at l.self number l.group))

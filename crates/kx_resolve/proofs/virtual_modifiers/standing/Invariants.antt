use Rattle.std.proofs.Common.{◌≡◌, ◌||◌, ℕ, take}
use Rattle.kx_resolve.specs.MappedKeys.{is_brought}
use Rattle.kx_virtual_mods.specs.Sets.{has}
use Rattle.kx_mods.specs.Mods.{mask}
use Rattle.kx_resolve.proofs.virtual_modifiers.standing.Given as goal

abbrev pub invariant-mapped_keys : goal.invariant-mapped_keys
invariant-mapped_keys l = (real : ℕ) → has (mask l.mods) real ≡ (has (mask l.fn.declared) real || is_brought (take l.mapped_key-index l.mapped_keys) l.number real)

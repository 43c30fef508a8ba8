use Rattle.std.proofs.Common.{◌≡◌, ℕ}
use Rattle.kx_resolve.specs.MappedKeys.{is_brought}
use Rattle.kx_resolve.specs.Read.{brings_at}
use Rattle.kx_virtual_mods.specs.Sets.{any_below}
use Rattle.kx_resolve.proofs.virtual_modifiers.mapped_keys_of.Given as goal

abbrev pub invariant-codes : goal.invariant-codes
invariant-codes l = (number real : ℕ) → is_brought l.mapped_keys.items number real ≡ any_below l.code (λ code. brings_at l.keys code number real)

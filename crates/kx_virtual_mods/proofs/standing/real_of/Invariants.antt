use Rattle.std.proofs.Common.{◌≡◌, ℕ, ◌&&◌, ◌||◌}
use Rattle.kx_mods.specs.Mods.{mask}
use Rattle.kx_virtual_mods.specs.Sets.{any_below, has, has_virtual, real_part}
use Rattle.kx_virtual_mods.specs.Standing.{stands_for}
use Rattle.kx_virtual_mods.proofs.standing.real_of.Given as goal

abbrev pub invariant-numbers : goal.invariant-numbers
invariant-numbers l = (real : ℕ) → has (mask l.mods) real ≡ (has (real_part l.set) real || any_below l.number (λ number. has_virtual l.set number && stands_for l.stands number real))

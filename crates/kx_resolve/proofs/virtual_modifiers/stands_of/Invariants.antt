use Rattle.std.proofs.Common.{◌≡◌, ◌||◌, ◌<◌, ℕ, length}
use Rattle.kx_resolve.specs.MappedKeys.{is_brought}
use Rattle.kx_virtual_mods.specs.Standing.{stands_for}
use Rattle.kx_resolve.proofs.virtual_modifiers.stands_of.Given as goal

abbrev pub invariant-numbers : goal.invariant-numbers
invariant-numbers l = (length l.stands.items ≡ l.number) × ((k real : ℕ) → k < l.number → stands_for l.stands.items k real ≡ (stands_for l.declared k real || is_brought l.mapped_keys k real))

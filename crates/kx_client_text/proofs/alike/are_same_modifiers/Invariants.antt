use Rattle.std.proofs.Common.{◌≡◌, ◌<◌, ℕ, get_or, length}
use Rattle.kx_clients.specs.declared.virtual_modifier.VirtualModifier.{VirtualModifier}
use Rattle.kx_client_text.proofs.alike.are_same_modifiers.Given as goal

abbrev pub invariant-places : goal.invariant-places
invariant-places l = (length l.one ≡ length l.other) × ((k : ℕ) (d : VirtualModifier) → k < l.place → get_or l.one k d ≡ get_or l.other k d)

use Rattle.std.proofs.Common.{◌≡◌, ◌+◌, drop, length}
use Rattle.kx_symbols.specs.Actions.{calls_in}
use Rattle.kx_symbols.proofs.actions.several_fault.Given as goal

abbrev pub invariant-parts : goal.invariant-parts
invariant-parts l = length (calls_in l.parts) ≡ l.part-index + length (calls_in (drop l.part-index l.parts))

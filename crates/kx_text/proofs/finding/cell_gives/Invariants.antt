use Rattle.std.proofs.Common.{◌≡◌, ℕ, ◌+◌, ◌<◌, Some, slice_get}
use Rattle.std.specs.List.{Contains}
use Rattle.kx_text.proofs.finding.cell_gives.Given as goal

abbrev pub invariant-loop-index : goal.invariant-loop-index
invariant-loop-index g l =
    (i k : ℕ) → i < l.index → slice_get (g.T.Rows.content l.tables).keysyms (l.fn.cell.first_keysym + i) ≡ Some k → Contains l.fn.keysyms k → ⊥

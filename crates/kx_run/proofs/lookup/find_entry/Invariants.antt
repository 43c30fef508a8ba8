use Rattle.std.proofs.Common.{◌≡◌, ℕ, ◌<◌, ◌≤◌, ◌==◌, false, Some, slice_get}
use Rattle.std.specs.Int.RustNames.{bit_and}
use Rattle.kx_mods.specs.Mods.{mask}
use Rattle.kx_tables.specs.declared.rows.EntryRow.{EntryRow}
use Rattle.kx_run.proofs.lookup.find_entry.Given as goal

abbrev pub invariant-loop-place : goal.invariant-loop-place
invariant-loop-place g l =
    (k : ℕ) (e : EntryRow) → l.fn.row.first_entry ≤ k → k < l.place → slice_get (g.T.Rows.content l.tables).entries k ≡ Some e → (mask e.mods == bit_and (mask l.fn.mods) (mask l.fn.row.mods)) ≡ false

use Rattle.std.proofs.Common.{◌≡◌, ℕ, ◌<◌, ◌≤◌, Some, get_or, length, slice_get, vec_capacity}
use Rattle.kx_tables.specs.declared.rows.TypeRow.{TypeRow}
use Rattle.kx_run.specs.Lookup.{IsChoice}
use Rattle.kx_run.specs.declared.choices.Choice.{Choice}
use Rattle.kx_run.proofs.choices.Choices.new.Given as goal

abbrev pub invariant-loop-index : goal.invariant-loop-index
invariant-loop-index g l = record {
  each : (i : ℕ) (t : TypeRow) (d : Choice) → i < l.index → slice_get (g.T.Rows.content l.tables).types i ≡ Some t → IsChoice (g.T.Rows.content l.tables) t (get_or l.choices.items i d);
  long : length l.choices.items ≡ l.index;
  room : l.count ≤ vec_capacity l.choices;
}

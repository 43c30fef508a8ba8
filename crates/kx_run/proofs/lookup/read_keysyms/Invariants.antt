use Rattle.std.proofs.Common.{◌≡◌, ◌-◌, ◌+◌}
use Rattle.arrayvec.specs.ArrayVec.{array_vec_len}
use Rattle.kx_tables.specs.Content.{part}
use Rattle.kx_run.proofs.lookup.read_keysyms.Given as goal

abbrev pub invariant-loop-place : goal.invariant-loop-place
invariant-loop-place g l = record {
  items : l.syms.items ≡ part (g.T.Rows.content l.tables).keysyms l.fn.cell.first_keysym (l.place - l.fn.cell.first_keysym);
  len : array_vec_len l.syms + l.fn.cell.first_keysym ≡ l.place;
}

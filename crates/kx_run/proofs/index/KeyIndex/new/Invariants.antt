use Rattle.std.proofs.Common.{◌≡◌, ℕ, ◌<◌, ◌≤◌, Option, get_or, length, vec_capacity}
use Rattle.kx_tables.specs.Keymap.{key_with}
use Rattle.kx_tables.specs.declared.rows.KeyRow.{KeyRow}
use Rattle.kx_run.proofs.index.KeyIndex.new.Given as goal

abbrev pub invariant-loop-code : goal.invariant-loop-code
invariant-loop-code g l = record {
  told : (code : ℕ) (d : Option KeyRow) → code < l.code → get_or l.keys.items code d ≡ key_with (g.T.Rows.content l.tables) code;
  long : length l.keys.items ≡ l.code;
  room : 4096 ≤ vec_capacity l.keys;
}

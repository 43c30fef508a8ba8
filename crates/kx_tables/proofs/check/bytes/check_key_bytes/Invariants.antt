use Rattle.std.proofs.Common.{ℕ, ◌≤◌, ◌<◌, get_or}
use Rattle.kx_basics.specs.KeyNames.{IsKeyByte}
use Rattle.kx_tables.proofs.check.bytes.check_key_bytes.Given as goal

abbrev pub invariant-loop-index : goal.invariant-loop-index
invariant-loop-index g l = (i : ℕ) → l.start ≤ i → i < l.index → IsKeyByte (get_or l.names i 0)

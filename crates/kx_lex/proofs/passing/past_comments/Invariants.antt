use Rattle.std.proofs.Common.{◌≡◌, ◌≤◌, false, length, slice_index}
use Rattle.kx_lex.specs.Bytes.{is_blank}
use Rattle.kx_lex.specs.Passing.{Skips}
use Rattle.kx_lex.proofs.passing.past_comments.Given as goal

abbrev pub invariant-gaps : goal.invariant-gaps
invariant-gaps l = record {
  skips : Skips l.bytes l.rest;
  within : length l.rest ≤ length l.bytes;
  none : is_blank (slice_index l.rest 0) ≡ false;
}

abbrev pub decreases-gaps : goal.decreases-gaps
decreases-gaps l = length l.rest

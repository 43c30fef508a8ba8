use Rattle.std.proofs.Common.{◌<◌}
use Rattle.std.specs.List.{Contains}
use Rattle.kx_text.specs.Finding.{Gives}
use Rattle.kx_text.specs.declared.finding.Spot.{Spot}
use Rattle.kx_text.proofs.finding.spots.Given as goal

abbrev pub invariant-loop-key : goal.invariant-loop-key
invariant-loop-key g l = record {
  each : (s : Spot) → Contains l.found.items s → Gives (g.T.Rows.content l.tables) l.fn.keysyms s;
  all : (s : Spot) → s.key < l.key → Gives (g.T.Rows.content l.tables) l.fn.keysyms s → Contains l.found.items s;
}

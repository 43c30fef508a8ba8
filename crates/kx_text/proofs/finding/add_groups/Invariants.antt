use Rattle.std.proofs.Common.{◌≡◌, ◌<◌, ◌⊎◌}
use Rattle.std.specs.List.{Contains}
use Rattle.kx_text.specs.Finding.{Gives}
use Rattle.kx_text.specs.declared.finding.Spot.{Spot}
use Rattle.kx_text.proofs.finding.add_groups.Given as goal

abbrev pub invariant-loop-group : goal.invariant-loop-group
invariant-loop-group g l = record {
  kept : (s : Spot) → Contains l.initial.found.items s → Contains l.found.items s;
  each : (s : Spot) → Contains l.found.items s → Contains l.initial.found.items s ⊎ Gives (g.T.Rows.content l.tables) l.fn.keysyms s;
  all : (s : Spot) → s.key ≡ l.fn.key → s.group < l.group → Gives (g.T.Rows.content l.tables) l.fn.keysyms s → Contains l.found.items s;
}

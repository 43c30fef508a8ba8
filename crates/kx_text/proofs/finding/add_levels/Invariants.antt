use Rattle.std.proofs.Common.{◌⊎◌}
use Rattle.std.specs.List.{Contains}
use Rattle.kx_text.specs.Finding.{IsLevelOf}
use Rattle.kx_text.specs.declared.finding.Spot.{Spot}
use Rattle.kx_text.proofs.finding.add_levels.Given as goal

abbrev pub invariant-loop-level : goal.invariant-loop-level
invariant-loop-level g l = record {
  kept : (s : Spot) → Contains l.initial.found.items s → Contains l.found.items s;
  each : (s : Spot) → Contains l.found.items s → Contains l.initial.found.items s ⊎ IsLevelOf (g.T.Rows.content l.tables) l.fn.keysyms l.fn.row l.fn.levels l.fn.key l.fn.group s;
  all : (s : Spot) → IsLevelOf (g.T.Rows.content l.tables) l.fn.keysyms l.fn.row l.level l.fn.key l.fn.group s → Contains l.found.items s;
}

use Rattle.std.proofs.Common.{◌≡◌, ◌<◌, fold, length}
use Rattle.kx_builder.specs.Pushes.{last_groups, with_cell}
use Rattle.kx_keys.specs.Bounds.{last_cells}
use Rattle.kx_keys.specs.InterpretedKey.{LevelsAreValid, cells_at}
use Rattle.kx_resolve.proofs.keys.push_levels.Given as goal

abbrev pub invariant-levels : goal.invariant-levels
invariant-levels l =
    (l.builder ≡ fold with_cell l.fn.builder (cells_at l.key l.group l.level))
    × (0 < length (last_groups l.builder.keys))
    × (length (last_cells l.builder.keys) ≡ l.level)
    × LevelsAreValid l.key l.group l.level

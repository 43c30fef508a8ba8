-- How deep includes are nested in the source, and how many of their parts are expanded, at the most.
use Rattle.std.specs.Prelude.{ℕ}
use Rattle.kx_include.specs.declared.expanding.TheConstants.{MOST_DEPTH, MOST_PARTS}

abbrev pub most_depth : ℕ
most_depth = MOST_DEPTH

abbrev pub most_parts : ℕ
most_parts = MOST_PARTS

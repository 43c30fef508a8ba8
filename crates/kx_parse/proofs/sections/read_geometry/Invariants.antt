use Rattle.std.proofs.Common.{◌≡◌, ◌≤◌, drop}
use Rattle.kx_tree.specs.Geometry.{geometry_read}
use Rattle.kx_parse.proofs.sections.read_geometry.Given as goal

-- the rest, with so many braces open, is read as the whole is
abbrev pub invariant-loop-i : goal.invariant-loop-i
invariant-loop-i l = (geometry_read l.text 0 l.tokens ≡ geometry_read l.text l.depth (drop l.i l.tokens)) × (l.depth ≤ l.i)

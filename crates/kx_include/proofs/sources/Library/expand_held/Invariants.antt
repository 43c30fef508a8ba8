use Rattle.std.proofs.Common.{drop}
use Rattle.kx_include.proofs.Sections.{AreGrown}
use Rattle.kx_include.specs.Library.{sections_in}
use Rattle.kx_include.proofs.sources.Library.expand_held.Given as goal

abbrev pub invariant-sections : goal.invariant-sections
invariant-sections l = AreGrown l.self l.section (drop l.section (sections_in l.self 0)) l.seen l.bodies

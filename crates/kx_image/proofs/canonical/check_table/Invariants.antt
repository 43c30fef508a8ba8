use Rattle.kx_image.specs.Canonical.{IsCanonicalTable}
use Rattle.kx_image.proofs.canonical.check_table.Given as goal

abbrev pub invariant-loop-index : goal.invariant-loop-index
invariant-loop-index g l = IsCanonicalTable g.R.Record.is_canonical l.size l.index l.start l.bytes

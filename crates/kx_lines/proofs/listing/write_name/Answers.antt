use Rattle.ks_core.proofs.BufferedOutLemmas.{writes_then}
use Rattle.kx_lines.proofs.listing.write_name.Goals as goal

pub returns : goal.returns
returns g c = writes_then g.O.Out.written g.O.Out.failures _ _ _ _ _ _ _ _ c.write.ensures c.write_printed_name.ensures

use Rattle.ks_core.proofs.BufferedOutLemmas.{writes_then}
use Rattle.kx_lines.proofs.tails.write_unlit.Goals as goal

pub returns : goal.returns
returns g c =
    writes_then g.O.Out.written g.O.Out.failures _ _ _ _ _ _ _ _ c.write_all_mods.ensures
    (writes_then g.O.Out.written g.O.Out.failures _ _ _ _ _ _ _ _ c.write_group.ensures c.write.ensures)

use Rattle.ks_core.proofs.BufferedOutLemmas.{writes_then}
use Rattle.kx_lines.proofs.state_text.write_all_mods.Goals as goal

pub returns : goal.returns
returns g c =
    writes_then g.O.Out.written g.O.Out.failures _ _ _ _ _ _ _ _ c.write_mods.ensures (writes_then g.O.Out.written g.O.Out.failures _ _ _ _ _ _ _ _ c.write_mods-2.ensures
    (writes_then g.O.Out.written g.O.Out.failures _ _ _ _ _ _ _ _ c.write_mods-3.ensures c.write_mods-4.ensures))

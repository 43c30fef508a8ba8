use Rattle.std.proofs.Common.{subst}
use Rattle.ks_core.specs.BufferedOut.{Writes}
use Rattle.ks_core.proofs.BufferedOutLemmas.{writes_then}
use Rattle.kx_image.proofs.writer.write_body.Goals as goal

pub returns : goal.returns
returns g c = (writes_then g.O.Out.written g.O.Out.failures _ _ _ _ _ _ _ _ c.write_types.ensures (writes_then g.O.Out.written g.O.Out.failures _ _ _ _ _ _ _ _ c.write_entries.ensures (writes_then g.O.Out.written g.O.Out.failures _ _ _ _ _ _ _ _ c.write_keys.ensures (writes_then g.O.Out.written g.O.Out.failures _ _ _ _ _ _ _ _ c.write_groups.ensures (writes_then g.O.Out.written g.O.Out.failures _ _ _ _ _ _ _ _ c.write_cells.ensures (writes_then g.O.Out.written g.O.Out.failures _ _ _ _ _ _ _ _ c.write_keysyms.ensures (writes_then g.O.Out.written g.O.Out.failures _ _ _ _ _ _ _ _ c.write_indicators.ensures (writes_then g.O.Out.written g.O.Out.failures _ _ _ _ _ _ _ _ c.write_group_names.ensures (subst (λ t. Writes g.O.Out.written g.O.Out.failures c.write_group_names.new.out c.write_group_names.new.buffered c.write.new.out c.write.new.self t) c.names.ensures c.write.ensures)))))))))

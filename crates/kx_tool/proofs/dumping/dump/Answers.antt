use Rattle.std.proofs.Common.{subst}
use Rattle.ks_core.specs.BufferedOut.{Gathered, Writes}
use Rattle.ks_core.proofs.BufferedOutLemmas.{writes_finish}
use Rattle.kx_tool.specs.Dump.{dumped}
use Rattle.kx_tool.proofs.dumping.dump.Goals as goal

pub returns : goal.returns
returns g c =
    writes_finish g.O.Out.written g.O.Out.failures c.args.out.now c.write_rows.new.out c.finish.new.out c.write_rows.new.buffered c.finish.result (dumped c.args.bytes.now)
    (subst (λ (p : Gathered). Writes g.O.Out.written g.O.Out.failures c.args.out.now p c.write_rows.new.out c.write_rows.new.buffered (dumped c.args.bytes.now)) c.new-buffered.ensures c.write_rows.ensures) c.finish.ensures

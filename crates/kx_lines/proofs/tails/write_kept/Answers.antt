use Rattle.std.proofs.Common.{subst}
use Rattle.ks_core.specs.BufferedOut.{Writes}
use Rattle.kx_lines.proofs.tails.write_kept.Goals as goal

pub returns-in-Some-clause-written : goal.returns-in-Some-clause-written
returns-in-Some-clause-written g c = λ same. subst (Writes g.O.Out.written g.O.Out.failures c.args.out.now c.args.buffered.now c.write.new.out c.write.new.self) c.in-Some.ensures c.write.ensures

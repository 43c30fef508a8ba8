use Rattle.std.proofs.Common.{◌++◌, ◌+◌, codes, decimal, subst}
use Rattle.ks_core.specs.BufferedOut.{Writes}
use Rattle.ks_core.proofs.BufferedOutLemmas.{writes_then}
use Rattle.kx_lines.proofs.state_text.write_group.Goals as goal

pub returns : goal.returns
returns g c =
    subst (λ n. Writes g.O.Out.written g.O.Out.failures c.args.out.now c.args.buffered.now c.write_number.new.out c.write_number.new.buffered (codes " group=" ++ decimal (n + 1))) c.from.ensures
    (writes_then g.O.Out.written g.O.Out.failures _ _ _ _ _ _ _ _ c.write.ensures c.write_number.ensures)

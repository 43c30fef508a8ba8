use Rattle.std.proofs.Common.{◌≡◌, ◌++◌, ◌∷◌, [], subst}
use Rattle.ks_core.specs.BufferedOut.{Writes}
use Rattle.ks_core.proofs.BufferedOutLemmas.{writes_then}
use Rattle.hex.specs.Hex.{encode_lower}
use Rattle.kx_tool.proofs.dumping.write_row.Goals as goal

pub returns : goal.returns
returns g c =
    let digits : c.encode_to_slice.new.output ≡ encode_lower c.args.row.now = c.in-Ok.ensures.written in
    subst (λ t. Writes g.O.Out.written g.O.Out.failures c.args.out.now c.args.buffered.now c.write-2.new.out c.write-2.new.self (t ++ 10 ∷ [])) digits
    (writes_then g.O.Out.written g.O.Out.failures _ _ _ _ _ _ _ _ c.write.ensures c.write-2.ensures)

use Rattle.std.proofs.Common.{refl}
use Rattle.std.proofs.lemmas.Option.{slice_get_read}
use Rattle.ks_core.proofs.BufferedOutLemmas.{writes_more}
use Rattle.kx_client_text.specs.Written.{declared_block}
use Rattle.kx_client_text.proofs.types.write_each_declared.Goals as goal

pub types-preserved : goal.types-preserved
types-preserved g c =
    let all = c.args.types.now in
    let at = slice_get_read all _ c.types.declared-index c.declared-item.result refl c.types-test.true c.declared-item.is in
    writes_more g.O.Out.written g.O.Out.failures c.args.out.now c.types.out c.write_declared.new.out c.args.buffered.now c.types.buffered c.write_declared.new.buffered declared_block all c.types.declared-index c.declared-item.result
    at c.types.invariant c.write_declared.ensures

use Rattle.std.proofs.Common.{arith}
use Rattle.kx_run.proofs.TableReads.{no_key_above}
use Rattle.kx_run.proofs.index.KeyIndex.new.Goals as goal

pub returns : goal.returns
returns g c =
    let content = g.T.Rows.content c.args.tables.now in
    record {
      told = λ code d within. c.loop-code.invariant.told code d (omega (arith, c.loop-code.invariant.long));
      others = λ code high. no_key_above content code c.key_count-sound.ensures.sound (omega (arith, c.loop-code.invariant.long, c.loop-code-test.false));
    }

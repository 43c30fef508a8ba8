use Rattle.std.proofs.Common.{get_or}
use Rattle.std.proofs.lemmas.Option.{slice_get-get_or}
use Rattle.ks_core.specs.PrintedName.{printed_byte}
use Rattle.ks_core.proofs.BufferedOutLemmas.{writes_more}
use Rattle.ks_core.proofs.printed.write_printed_name.Goals as goal

pub loop-byte-preserved : goal.loop-byte-preserved
loop-byte-preserved g c =
    writes_more g.O.Out.written g.O.Out.failures c.args.out.now c.loop-byte.out c.write_printed_byte.new.out c.args.buffered.now c.loop-byte.buffered c.write_printed_byte.new.buffered printed_byte c.args.name.now c.loop-byte.byte-index (get_or c.args.name.now c.loop-byte.byte-index 0)
    (slice_get-get_or c.args.name.now c.loop-byte.byte-index 0 c.loop-byte-test.true) c.loop-byte.invariant c.write_printed_byte.ensures

use Rattle.std.proofs.lemmas.Option.{slice_get-get_or}
use Rattle.ks_core.proofs.BufferedOutLemmas.{writes_more}
use Rattle.kx_print.specs.Printed.{entry_lines}
use Rattle.kx_client_text.proofs.types.write_entries.Goals as goal

pub entries-preserved : goal.entries-preserved
entries-preserved g c =
    let all = c.args.entries.now in
    writes_more g.O.Out.written g.O.Out.failures c.args.out.now c.entries.out c.write_entry.new.out c.args.buffered.now c.entries.buffered c.write_entry.new.buffered entry_lines all c.entries.index _
    (slice_get-get_or all c.entries.index _ c.entries-test.true) c.entries.invariant c.write_entry.ensures

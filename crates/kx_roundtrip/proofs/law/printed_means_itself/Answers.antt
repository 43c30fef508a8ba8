use Rattle.kx_roundtrip.proofs.Itself.{means_again, no_fault}
use Rattle.kx_roundtrip.proofs.law.printed_means_itself.Goals as goal

pub returns-clause-faultless : goal.returns-clause-faultless
returns-clause-faultless k c names e can table =
    no_fault (record {
      once = record { one_reading = k.one_reading.ensures.one; one_source = k.one_tree.ensures.source };
      stopped = k.one_reading.ensures.stopped;
      source_stopped = k.one_stop.ensures.source_spelled;
    }) c names can table e

pub returns-clause-content : goal.returns-clause-content
returns-clause-content k c d names can table =
    means_again (record {
      once = record { one_reading = k.one_reading.ensures.one; one_source = k.one_tree.ensures.source };
      stopped = k.one_reading.ensures.stopped;
      source_stopped = k.one_stop.ensures.source_spelled;
    }) c names can table d

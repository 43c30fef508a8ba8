use Rattle.kx_headline.proofs.Faulty.{answers-none, means-none}
use Rattle.kx_headline.proofs.laws.faults_mean_nothing.Goals as goal

pub returns-clause-tables : goal.returns-clause-tables
returns-clause-tables c source files names =
    means-none names (record {
      one_reading = c.one_reading.ensures.one;
      stopped = c.one_reading.ensures.stopped;
      one_source = c.one_tree.ensures.source;
      one_file = c.one_tree.ensures.file;
      source_stopped = c.one_stop.ensures.source_spelled;
      file_stopped = c.one_stop.ensures.file_spelled;
      one_stop = c.one_stop.ensures.file;
    }) source files

pub returns-clause-answers : goal.returns-clause-answers
returns-clause-answers c source files names =
    answers-none names (record {
      one_reading = c.one_reading.ensures.one;
      stopped = c.one_reading.ensures.stopped;
      one_source = c.one_tree.ensures.source;
      one_file = c.one_tree.ensures.file;
      source_stopped = c.one_stop.ensures.source_spelled;
      file_stopped = c.one_stop.ensures.file_spelled;
      one_stop = c.one_stop.ensures.file;
    }) source files

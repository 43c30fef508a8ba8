use Rattle.kx_headline.proofs.Meanings.{means-one}
use Rattle.kx_headline.proofs.Replies.{answers-one}
use Rattle.kx_headline.proofs.laws.one_meaning.Goals as goal

pub returns-clause-content : goal.returns-clause-content
returns-clause-content c source files names =
    means-one names (record {
      one_reading = c.one_reading.ensures.one;
      stopped = c.one_reading.ensures.stopped;
      one_source = c.one_tree.ensures.source;
      one_file = c.one_tree.ensures.file;
      source_stopped = c.one_stop.ensures.source_spelled;
      file_stopped = c.one_stop.ensures.file_spelled;
      one_stop = c.one_stop.ensures.file;
    }) source files

pub returns-clause-answers : goal.returns-clause-answers
returns-clause-answers c source files names =
    answers-one names (record {
      one_reading = c.one_reading.ensures.one;
      stopped = c.one_reading.ensures.stopped;
      one_source = c.one_tree.ensures.source;
      one_file = c.one_tree.ensures.file;
      source_stopped = c.one_stop.ensures.source_spelled;
      file_stopped = c.one_stop.ensures.file_spelled;
      one_stop = c.one_stop.ensures.file;
    }) source files

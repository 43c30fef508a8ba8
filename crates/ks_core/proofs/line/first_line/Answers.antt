use Rattle.ks_core.proofs.SplitLemmas.{lines_of-found, lines_of-none}
use Rattle.ks_core.proofs.line.first_line.Goals as goal

pub returns-in-Some-clause-lines : goal.returns-in-Some-clause-lines
returns-in-Some-clause-lines c = rw (c.split_at.ensures.front, c.split_at-in-Some.ensures.back) (lines_of-found c.args.text.now c.in-Some.end c.in-Some.ensures.index)

pub returns-in-None-clause-lines : goal.returns-in-None-clause-lines
returns-in-None-clause-lines c = lines_of-none c.args.text.now c.in-None.ensures.index

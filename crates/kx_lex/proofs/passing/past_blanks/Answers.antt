use Rattle.kx_lex.proofs.PassedOver.{Skips-blanks, no_blank}
use Rattle.kx_lex.proofs.passing.past_blanks.Goals as goal

pub returns-clause-skips : goal.returns-clause-skips
returns-clause-skips c = rw (c.past.ensures, c.wide_run_len.ensures.exact) (Skips-blanks c.args.bytes.now)

pub returns-clause-none : goal.returns-clause-none
returns-clause-none c = rw (c.past.ensures, c.wide_run_len.ensures.exact) (no_blank c.args.bytes.now)

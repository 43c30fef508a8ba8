use Rattle.kx_lex.proofs.PassedOver.{Skips-more}
use Rattle.kx_lex.proofs.passing.past_all_gaps.Goals as goal

pub returns-clause-skips : goal.returns-clause-skips
returns-clause-skips c = Skips-more c.past_blanks-rest.ensures.skips c.past_comments.ensures.skips

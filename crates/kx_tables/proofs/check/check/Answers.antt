use Rattle.kx_tables.proofs.Fitting.{refusal_unsound}
use Rattle.kx_tables.proofs.check.check.Goals as goal

pub returns-clause-unsound : goal.returns-clause-unsound
returns-clause-unsound g c = refusal_unsound (g.R.Rows.content c.args.rows.now) c.check_rules.result c.check_rules.ensures.broken

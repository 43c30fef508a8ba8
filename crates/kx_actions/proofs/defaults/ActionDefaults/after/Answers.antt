use Rattle.kx_actions.proofs.Last.{last_defaults}
use Rattle.kx_actions.proofs.defaults.ActionDefaults.after.Goals as goal

pub returns-in_default-clause-last : goal.returns-in_default-clause-last
returns-in_default-clause-last c = last_defaults c.args.names.now.names

pub returns-in_default-kind_of-clause-last : goal.returns-in_default-kind_of-clause-last
returns-in_default-kind_of-clause-last c = last_defaults c.args.names.now.names

pub returns-in_err-given-clause-last : goal.returns-in_err-given-clause-last
returns-in_err-given-clause-last c = last_defaults c.args.names.now.names

pub returns-clause-last : goal.returns-clause-last
returns-clause-last c = last_defaults c.args.names.now.names

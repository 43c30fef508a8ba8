use Rattle.kx_indicators.proofs.Behind.{defaults_are_last}
use Rattle.kx_indicators.proofs.Single.{indicators_once}
use Rattle.kx_indicators.proofs.listing.indicators.Goals as goal

pub returns-clause-once : goal.returns-clause-once
returns-clause-once c = λ indicator_maps. indicators_once indicator_maps c.args.names.now.names

pub returns-clause-defaults : goal.returns-clause-defaults
returns-clause-defaults c = defaults_are_last c.args.names.now.names

use Rattle.std.proofs.Common.{◌∙◌}
use Rattle.kx_include.specs.Shared.{expanded_body}
use Rattle.kx_compat.proofs.Behind.{defaults_are_last}
use Rattle.kx_compat.proofs.Listed.{listed_are}
use Rattle.kx_compat.proofs.Single.{interpretations_once}
use Rattle.kx_compat.proofs.listing.interpretations.Goals as goal

pub returns-clause-shows : goal.returns-clause-shows
returns-clause-shows c =
    c.in_ok-interpretations.ensures.value
    ∙ listed_are c.in_ok-merged.merged.records c.args.table.now c.args.names.now.names (expanded_body c.args.expansion.now) c.in_ok-all.all.items c.in_ok-merged.ensures.shows c.in_ok-all.ensures.value

pub returns-in_err-merged-clause-once : goal.returns-in_err-merged-clause-once
returns-in_err-merged-clause-once c = interpretations_once c.args.table.now c.args.names.now.names

pub returns-in_err-all-clause-once : goal.returns-in_err-all-clause-once
returns-in_err-all-clause-once c = interpretations_once c.args.table.now c.args.names.now.names

pub returns-in_err-interpretations-clause-once : goal.returns-in_err-interpretations-clause-once
returns-in_err-interpretations-clause-once c = interpretations_once c.args.table.now c.args.names.now.names

pub returns-clause-once : goal.returns-clause-once
returns-clause-once c = interpretations_once c.args.table.now c.args.names.now.names

pub returns-in_err-merged-clause-defaults : goal.returns-in_err-merged-clause-defaults
returns-in_err-merged-clause-defaults c = defaults_are_last c.args.names.now.names

pub returns-in_err-all-clause-defaults : goal.returns-in_err-all-clause-defaults
returns-in_err-all-clause-defaults c = defaults_are_last c.args.names.now.names

pub returns-in_err-interpretations-clause-defaults : goal.returns-in_err-interpretations-clause-defaults
returns-in_err-interpretations-clause-defaults c = defaults_are_last c.args.names.now.names

pub returns-clause-defaults : goal.returns-clause-defaults
returns-clause-defaults c = defaults_are_last c.args.names.now.names

use Rattle.kx_virtual_mods.proofs.Distinct.{masks_once}
use Rattle.kx_virtual_mods.proofs.mod_names.ModNames.of.Goals as goal

pub returns-in_err-names-clause-once : goal.returns-in_err-names-clause-once
returns-in_err-names-clause-once c = masks_once

pub returns-in_err-masks-clause-once : goal.returns-in_err-masks-clause-once
returns-in_err-masks-clause-once c = masks_once

pub returns-clause-once : goal.returns-clause-once
returns-clause-once c = masks_once

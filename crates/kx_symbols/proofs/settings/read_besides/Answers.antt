use Rattle.std.proofs.Common.{subst}
use Rattle.kx_merge.specs.Reports.{ReportsOrRunsOut}
use Rattle.kx_key_fields.specs.KeyFields.{setting_faults}
use Rattle.kx_symbols.specs.Known.{Known}
use Rattle.kx_symbols.proofs.settings.read_besides.Goals as goal

pub returns-in-Some-clause-faults : goal.returns-in-Some-clause-faults
returns-in-Some-clause-faults c = subst (λ (k : Known). ReportsOrRunsOut c.read_settings.result (setting_faults c.args.file k.modifiers c.args.fields.now)) c.known.view_is c.read_settings.ensures.faults

pub returns-in-None-clause-faults : goal.returns-in-None-clause-faults
returns-in-None-clause-faults c = subst (λ (k : Known). ReportsOrRunsOut c.read_alone.result (setting_faults c.args.file k.modifiers c.args.fields.now)) c.known.view_is c.read_alone.ensures.faults

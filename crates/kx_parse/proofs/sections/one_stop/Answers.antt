use Rattle.kx_parse.proofs.Refusals.{source-one_stop, file-one_stop, source-spells_none, file-spells_none}
use Rattle.kx_parse.proofs.sections.one_stop.Goals as goal

pub returns-clause-source : goal.returns-clause-source
returns-clause-source c = source-one_stop

pub returns-clause-file : goal.returns-clause-file
returns-clause-file c = file-one_stop

pub returns-clause-source_spelled : goal.returns-clause-source_spelled
returns-clause-source_spelled c = source-spells_none

pub returns-clause-file_spelled : goal.returns-clause-file_spelled
returns-clause-file_spelled c = file-spells_none

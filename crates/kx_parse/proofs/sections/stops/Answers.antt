use Rattle.kx_parse.proofs.Refusals.{source-stops, file-stops, source-number, file-number}
use Rattle.kx_parse.proofs.sections.stops.Goals as goal

pub returns-clause-source : goal.returns-clause-source
returns-clause-source c = source-stops

pub returns-clause-file : goal.returns-clause-file
returns-clause-file c = file-stops

pub returns-clause-source_number : goal.returns-clause-source_number
returns-clause-source_number c = source-number

pub returns-clause-file_number : goal.returns-clause-file_number
returns-clause-file_number c = file-number

use Rattle.kx_lex.proofs.Readings.{IsReading-one, stopped-has_no_reading}
use Rattle.kx_lex.proofs.scan.one_reading.Goals as goal

pub returns-clause-one : goal.returns-clause-one
returns-clause-one c = IsReading-one

pub returns-clause-stopped : goal.returns-clause-stopped
returns-clause-stopped c text tokens e s r = stopped-has_no_reading s r

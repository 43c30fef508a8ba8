use Rattle.kx_lex.proofs.KeyNames.{IsReading-key_names}
use Rattle.kx_lex.proofs.scan.key_names_of_readings.Goals as goal

pub returns : goal.returns
returns c = IsReading-key_names

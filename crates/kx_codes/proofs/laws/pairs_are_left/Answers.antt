use Rattle.kx_codes.proofs.Left.{codes_left, names_left}
use Rattle.kx_codes.proofs.laws.pairs_are_left.Goals as goal

pub returns-clause-codes : goal.returns-clause-codes
returns-clause-codes c body pair = codes_left body pair

pub returns-clause-names : goal.returns-clause-names
returns-clause-names c body pair = names_left body pair

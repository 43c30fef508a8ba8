use Rattle.kx_lex.proofs.Shorter.{Gives-shorter}
use Rattle.kx_tree.proofs.LawfulValues.{argument-lawful, argument-least}
use Rattle.kx_tree.proofs.values.ArgumentsRepeated.read_next.Goals as goal

pub returns-clause-shorter : goal.returns-clause-shorter
returns-clause-shorter c = Gives-shorter (argument-lawful c.args.text.now) (argument-least c.args.text.now) c.args.tokens.now c.read_argument.result c.read_argument.ensures

use Rattle.kx_lex.proofs.Shorter.{Gives-shorter}
use Rattle.kx_tree.proofs.LawfulValues.{operation-lawful, operation-least}
use Rattle.kx_tree.proofs.values.OperationsRepeated.read_next.Goals as goal

pub returns-clause-shorter : goal.returns-clause-shorter
returns-clause-shorter c = Gives-shorter (operation-lawful c.args.text.now) (operation-least c.args.text.now) c.args.tokens.now c.read_operation.result c.read_operation.ensures

use Rattle.kx_lex.proofs.Shorter.{Gives-shorter}
use Rattle.kx_tree.proofs.LawfulValues.{element-lawful, element-least}
use Rattle.kx_tree.proofs.values.ElementsRepeated.read_next.Goals as goal

pub returns-clause-shorter : goal.returns-clause-shorter
returns-clause-shorter c = Gives-shorter (element-lawful c.args.text.now) (element-least c.args.text.now) c.args.tokens.now c.read_element.result c.read_element.ensures

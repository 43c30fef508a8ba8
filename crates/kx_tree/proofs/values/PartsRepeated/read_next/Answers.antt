use Rattle.kx_lex.proofs.Shorter.{Gives-shorter}
use Rattle.kx_tree.proofs.LawfulValues.{part-lawful, part-least}
use Rattle.kx_tree.proofs.values.PartsRepeated.read_next.Goals as goal

pub returns-clause-shorter : goal.returns-clause-shorter
returns-clause-shorter c = Gives-shorter (part-lawful c.args.text.now) (part-least c.args.text.now) c.args.tokens.now c.read_part.result c.read_part.ensures

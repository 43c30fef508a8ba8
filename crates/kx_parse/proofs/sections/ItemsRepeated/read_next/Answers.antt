use Rattle.kx_lex.proofs.Shorter.{Gives-shorter}
use Rattle.kx_parse.proofs.LawfulSections.{item-lawful, item-least}
use Rattle.kx_parse.proofs.sections.ItemsRepeated.read_next.Goals as goal

pub returns-clause-shorter : goal.returns-clause-shorter
returns-clause-shorter c = Gives-shorter (item-lawful c.args.text.now) (item-least c.args.text.now) c.args.tokens.now c.read_item.result c.read_item.ensures

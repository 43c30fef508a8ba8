use Rattle.kx_lex.proofs.Shorter.{Gives-shorter}
use Rattle.kx_tree.proofs.LawfulStatements.{entry-lawful, entry-least}
use Rattle.kx_parse.proofs.fields.EntriesRepeated.read_next.Goals as goal

pub returns-clause-shorter : goal.returns-clause-shorter
returns-clause-shorter c = Gives-shorter (entry-lawful c.args.text.now) (entry-least c.args.text.now) c.args.tokens.now c.read_entry.result c.read_entry.ensures

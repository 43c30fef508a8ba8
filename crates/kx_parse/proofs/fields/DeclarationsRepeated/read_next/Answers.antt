use Rattle.kx_lex.proofs.Shorter.{Gives-shorter}
use Rattle.kx_tree.proofs.LawfulStatements.{declaration-lawful, declaration-least}
use Rattle.kx_parse.proofs.fields.DeclarationsRepeated.read_next.Goals as goal

pub returns-clause-shorter : goal.returns-clause-shorter
returns-clause-shorter c = Gives-shorter (declaration-lawful c.args.text.now) (declaration-least c.args.text.now) c.args.tokens.now c.read_declaration.result c.read_declaration.ensures

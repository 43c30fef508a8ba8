use Rattle.kx_lex.proofs.Shorter.{Gives-shorter}
use Rattle.kx_tree.proofs.LawfulStatements.{key_field-lawful, key_field-least}
use Rattle.kx_parse.proofs.fields.KeyFieldsRepeated.read_next.Goals as goal

pub returns-clause-shorter : goal.returns-clause-shorter
returns-clause-shorter c = Gives-shorter (key_field-lawful c.args.text.now) (key_field-least c.args.text.now) c.args.tokens.now c.read_key_field.result c.read_key_field.ensures

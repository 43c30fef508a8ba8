use Rattle.kx_lex.proofs.Shorter.{Gives-shorter}
use Rattle.kx_tree.proofs.LawfulStatements.{block_field-lawful, block_field-least}
use Rattle.kx_parse.proofs.fields.BlockFieldsRepeated.read_next.Goals as goal

pub returns-clause-shorter : goal.returns-clause-shorter
returns-clause-shorter c = Gives-shorter (block_field-lawful c.args.text.now) (block_field-least c.args.text.now) c.args.tokens.now c.read_block_field.result c.read_block_field.ensures

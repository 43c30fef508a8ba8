use Rattle.kx_lex.proofs.Shorter.{Gives-shorter}
use Rattle.kx_parse.proofs.LawfulSections.{section-lawful, section-least}
use Rattle.kx_parse.proofs.sections.FileSectionsRepeated.read_next.Goals as goal

pub returns-clause-shorter : goal.returns-clause-shorter
returns-clause-shorter c = Gives-shorter (section-lawful c.args.text.now) (section-least c.args.text.now) c.args.tokens.now c.read_section.result c.read_section.ensures

use Rattle.kx_lex.proofs.Shorter.{Gives-shorter}
use Rattle.kx_parse.proofs.LawfulSections.{flag-lawful, flag-least}
use Rattle.kx_parse.proofs.sections.FlagsRepeated.read_next.Goals as goal

pub returns-clause-shorter : goal.returns-clause-shorter
returns-clause-shorter c = Gives-shorter (flag-lawful c.args.text.now) (flag-least c.args.text.now) c.args.tokens.now c.read_flag.result c.read_flag.ensures

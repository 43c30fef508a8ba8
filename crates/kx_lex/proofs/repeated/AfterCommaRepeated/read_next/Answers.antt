use Rattle.kx_lex.specs.Tokens.{comma}
use Rattle.kx_lex.proofs.TokenLaws.{mark-lawful, mark-least}
use Rattle.kx_lex.proofs.Shorter.{shrinks, fewer}
use Rattle.kx_lex.proofs.repeated.AfterCommaRepeated.read_next.Goals as goal

pub returns-clause-shorter : goal.returns-clause-shorter
returns-clause-shorter g c =
    let behind_comma = shrinks (mark-lawful c.args.text.now comma) (mark-least c.args.text.now comma) c.args.tokens.now _ _ c.in_ok-rest.ensures in
    fewer c.read_next.result c.in_ok-rest.rest.now c.args.tokens.now behind_comma c.read_next.ensures.shorter

use Rattle.std.proofs.Common.{◌∙◌, take, ap, List, ℕ}
use Rattle.kx_lex.proofs.Takes.{take-shorter}
use Rattle.kx_lex.proofs.kept.Bytes.front.Goals as goal

pub returns-in-Some : goal.returns-in-Some
returns-in-Some c =
    let chunk = c.in-Some.ensures.cases in
    c.short.ensures ∙ (ap (λ (xs : List ℕ). take c.args.len xs) chunk.same ∙ take-shorter c.args.len 22 c.args.bytes.now c.if-len-le-MOST_SHORT_BYTES.true)

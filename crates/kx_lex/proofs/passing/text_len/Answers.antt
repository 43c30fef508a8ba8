use Rattle.std.proofs.Common.{false, sym, arith}
use Rattle.kx_lex.proofs.PassedOver.{closed-some, text-piece}
use Rattle.kx_lex.proofs.passing.text_len.Goals as goal

pub returns-in-Closed-clause-exact : goal.returns-in-Closed-clause-exact
returns-in-Closed-clause-exact c = text-piece c.args.bytes.now c.in-Some.first.now c.in-Some.left.now c.in-Closed.len c.in-Some.ensures.cases.0 c.if-first-eq34.true (sym c.in-Closed.ensures.exact)

pub returns-in-Closed-clause-some : goal.returns-in-Closed-clause-some
returns-in-Closed-clause-some c = omega (arith, closed-some false c.in-Some.left.now c.in-Closed.len (sym c.in-Closed.ensures.exact))

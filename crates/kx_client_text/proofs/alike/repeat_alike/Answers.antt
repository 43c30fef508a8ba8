use Rattle.std.proofs.Common.{arith, refl}
use Rattle.kx_client_text.proofs.alike.repeat_alike.Goals as goal

pub returns : goal.returns
returns c = (λ _. λ code within. c.codes.invariant code (omega (arith, within, c.codes-test.false)), λ _. refl)

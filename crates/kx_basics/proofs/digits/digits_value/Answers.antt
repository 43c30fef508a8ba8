use Rattle.std.proofs.Common.{drop, arith}
use Rattle.kx_basics.proofs.Growing.{digits_value_after-grows}
use Rattle.kx_basics.proofs.digits.digits_value.Goals as goal

pub returns-then-value : goal.returns-then-value
returns-then-value c = omega (arith, digits_value_after-grows c.args.base c.loop-digit.value (drop c.loop-digit.digit-index c.args.digits.now) c.requires.some, c.loop-digit.invariant.0)

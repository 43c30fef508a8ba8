use Rattle.std.proofs.Common.{◌≡◌, ◌<◌, ◌^◌, drop}
use Rattle.std.specs.Str.Parse.{digits_value_after}
use Rattle.kx_basics.proofs.digits.digits_value.Given as goal

-- the digits that are left, after the value so far, give the whole number
abbrev pub invariant-loop-digit : goal.invariant-loop-digit
invariant-loop-digit l = (digits_value_after l.base 0 l.digits ≡ digits_value_after l.base l.value (drop l.digit-index l.digits)) × (l.value < 2 ^ 38)

-- A number doesn't shrink with a digit more.
use Rattle.std.proofs.Common.{ℕ, ◌+◌, ◌*◌, ◌≤◌, List, [], ◌∷◌, arith}
use Rattle.std.specs.Char.{digit_value}
use Rattle.std.specs.Str.Parse.{digits_value_after}

more : (base value digit : ℕ) → 1 ≤ base → value ≤ value * base + digit
more base value digit h = grind arith

pub digits_value_after-grows : (base value : ℕ) (digits : List ℕ) → 1 ≤ base → value ≤ digits_value_after base value digits
digits_value_after-grows base value [] h = omega arith
digits_value_after-grows base value (digit ∷ digits) h =
    let first = more base value (digit_value digit) h in
    let rest = digits_value_after-grows base (value * base + digit_value digit) digits h in
    omega arith

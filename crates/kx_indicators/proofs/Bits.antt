-- Masks that are joined have no more bits.
use Rattle.std.proofs.Common.{ℕ, ◌-◌, ◌<◌, ◌≤◌, ◌^◌, arith}
use Rattle.std.specs.Int.RustNames.{bit_and}
use Rattle.std.proofs.lemmas.Nat.{and_le_l, or_lt}
use Rattle.kx_virtual_mods.specs.Masks.{joined}
use Rattle.kx_tree.specs.declared.tree.Sign.{Sign}
use Rattle.kx_tree.specs.declared.tree.Sign.TheVariants.{Plus, Minus}

fewer : (a b most : ℕ) → b ≤ a → a < most → b < most
fewer a b most p q = omega (arith, p, q)

pub joined_within : (sign : Sign) (k a b : ℕ) → a < 2 ^ k → b < 2 ^ k → joined sign a b < 2 ^ k
joined_within Plus k a b p q = or_lt k a b p q
joined_within Minus k a b p q = fewer a (bit_and a (2 ^ 32 - 1 - b)) (2 ^ k) (and_le_l a (2 ^ 32 - 1 - b)) p

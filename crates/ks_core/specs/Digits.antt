-- Numbers in 32 bits.
use Rattle.std.specs.Prelude.{ℕ, Option, None, Some, nat_lt, if◌then◌else◌}

-- the number, where it fits 32 bits
unfoldable pub in_32_bits : ℕ → Option ℕ
in_32_bits n = if nat_lt n 4294967296 then Some n else None

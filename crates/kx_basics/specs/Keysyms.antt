-- The keysyms that a level may have: those that a number or a line of names can give.
use Rattle.std.specs.Prelude.{ℕ, ◌+◌, ◌≤◌, Bool, ◌&&◌, nat_le, nat_lt, if◌then◌else◌}
use Rattle.kx_basics.specs.declared.limits.TheConstants.{GREATEST_KEYSYM, LEAST_KEYSYM}

pub record IsKeysym (keysym : ℕ) : Type 0 where
  pub least : LEAST_KEYSYM ≤ keysym
  pub most : keysym ≤ GREATEST_KEYSYM

-- the same as a test
abbrev pub is_keysym : ℕ → Bool
is_keysym keysym = nat_le LEAST_KEYSYM keysym && nat_le keysym GREATEST_KEYSYM

-- a number of one digit is that digit's keysym, another is the keysym of that number
abbrev pub number_keysym : ℕ → ℕ
number_keysym n = if nat_lt n 10 then 48 + n else n

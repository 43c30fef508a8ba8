-- Sets of names of modifiers as numbers: bits 0 to 7 are the real ones, Shift, Lock, Control and Mod1 to Mod5, and bits 8 to
-- 31 the virtual ones, by their numbers from 0 to 23.
use Rattle.std.specs.Prelude.{ℕ, ◌+◌, ◌-◌, ◌%◌, ◌==◌, ◌^◌, ◌||◌, ◌&&◌, zero, suc, Bool, false}
use Rattle.std.specs.Int.{bit_at}
use Rattle.std.specs.Int.RustNames.{bit_and, bit_or}
use Rattle.kx_virtual_mods.specs.declared.limits.TheConstants.{MOST_VIRTUAL_MODIFIERS}

-- whether a set has the name of a bit
abbrev pub has : ℕ → ℕ → Bool
has set bit = bit_at set bit == 1

abbrev pub has_virtual : ℕ → ℕ → Bool
has_virtual set number = has set (number + 8)

-- the names of either set
abbrev pub union : ℕ → ℕ → ℕ
union set other = bit_or set other

-- the names of both sets
abbrev pub meet : ℕ → ℕ → ℕ
meet set other = bit_and set other

-- the names of a set that the other lacks
abbrev pub without : ℕ → ℕ → ℕ
without set other = bit_and set (2 ^ 32 - 1 - other)

-- the real names of a set
abbrev pub real_part : ℕ → ℕ
real_part set = set % 256

-- the set of a virtual name
abbrev pub virtual_set : ℕ → ℕ
virtual_set number = 2 ^ (number + 8)

-- whether a test holds below a number
unfoldable pub any_below : ℕ → (ℕ → Bool) → Bool
any_below zero test = false
any_below (suc n) test = any_below n test || test n

-- what a set stands for: its real names, and for each of its virtual names those that the name stands for
abbrev pub real_of : (ℕ → ℕ → Bool) → ℕ → ℕ → Bool
real_of stands set real = has (real_part set) real || any_below MOST_VIRTUAL_MODIFIERS (λ number. has_virtual set number && stands number real)

-- The names of keys, as the text format v1 of libxkbcommon has them between < and >.
use Rattle.std.specs.Prelude.{◌≡◌, ◌≤◌, ℕ, All, Bool, true, not, ◌==◌, ◌&&◌, List, length, nat_le}
use Rattle.kx_basics.specs.declared.limits.TheConstants.{MOST_NAME_BYTES}

-- visible ASCII but >
abbrev pub is_key_byte : ℕ → Bool
is_key_byte b = (nat_le 33 b && nat_le b 126) && not (b == 62)

-- the same as a fact
abbrev pub IsKeyByte : ℕ → Type 0
IsKeyByte b = is_key_byte b ≡ true

pub record IsKeyName (name : List ℕ) : Type 0 where
  pub short : length name ≤ MOST_NAME_BYTES
  pub visible : All IsKeyByte name

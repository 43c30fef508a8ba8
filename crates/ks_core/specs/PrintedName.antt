-- Names in printed text, which stay on their line and between quotes.
use Rattle.std.specs.Prelude.{ℕ, ◌+◌, ◌/◌, ◌%◌, ◌==◌, ◌&&◌, Bool, not, List, [], ◌∷◌, nat_le, if◌then◌else◌}
use Rattle.std.specs.List.{flat_map}

-- a byte that stands as it is: 0x20 to 0x7e, but `"` and `\`
abbrev pub is_plain : ℕ → Bool
is_plain byte = nat_le 32 byte && nat_le byte 126 && not (byte == 34) && not (byte == 92)

-- `\` and three octal digits
abbrev pub octal : ℕ → List ℕ
octal byte = 92 ∷ (48 + byte / 64) ∷ (48 + byte / 8 % 8) ∷ (48 + byte % 8) ∷ []

abbrev pub printed_byte : ℕ → List ℕ
printed_byte byte = if is_plain byte then byte ∷ [] else octal byte

abbrev pub printed_name : List ℕ → List ℕ
printed_name name = flat_map printed_byte name

-- Bytes as lines of hexadecimal text.
use Rattle.std.specs.Prelude.{ℕ, ◌+◌, ◌*◌, ◌/◌, List, [], ◌∷◌, ◌++◌, drop, length, take}
use Rattle.std.specs.List.{flat_map, range_with_len}
use Rattle.hex.specs.Hex.{encode_lower}

-- a line of bytes
abbrev pub row_text : List ℕ → List ℕ
row_text row = encode_lower row ++ 10 ∷ []

-- the bytes of a row, counted from 0; the last row may have fewer than 32
abbrev pub row_at : List ℕ → ℕ → List ℕ
row_at bytes index = take 32 (drop (32 * index) bytes)

abbrev pub dumped : List ℕ → List ℕ
dumped bytes = flat_map (λ index. row_text (row_at bytes index)) (range_with_len 0 ((length bytes + 31) / 32))

-- Lines and columns of a text.
use Rattle.std.specs.Prelude.{ℕ, ◌==◌, not, List, count_by, length, reverse}
use Rattle.std.specs.List.{take_while}

abbrev pub line_feeds : List ℕ → ℕ
line_feeds bytes = count_by (λ byte. byte == 10) bytes

-- how many bytes stand after the last line feed
abbrev pub since_line_feed : List ℕ → ℕ
since_line_feed bytes = length (take_while (λ byte. not (byte == 10)) (reverse bytes))

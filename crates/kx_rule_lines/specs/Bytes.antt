-- How the code tells bytes of words.
use Rattle.std.specs.Prelude.{ℕ, Bool, not, ◌==◌, ◌&&◌, ◌||◌, if◌then◌else◌}
use Rattle.kx_rule_lines.specs.Pieces.{is_word_byte}
use Rattle.kx_rule_lines.specs.declared.bytes.InWord.{InWord}
use Rattle.kx_rule_lines.specs.declared.bytes.InWord.TheVariants.{No, Yes}

-- which bytes may stand in a word, as a table has it
unfoldable pub in_word_of : ℕ → InWord
in_word_of b = if is_word_byte b then Yes else No

-- what begins a word wherever a piece begins with it
abbrev pub begins_plain : ℕ → Bool
begins_plain b = is_word_byte b && not ((((b == 33 || b == 61) || b == 42) || b == 36) || (b == 105 || b == 47))

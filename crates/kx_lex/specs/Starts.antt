-- What a byte begins, by the byte alone.
use Rattle.std.specs.Prelude.{ℕ, ◌==◌, if◌then◌else◌}
use Rattle.std.specs.Char.{is_ascii_digit}
use Rattle.kx_lex.specs.Bytes.{is_word_start, is_mark, is_blank}
use Rattle.kx_lex.specs.declared.start.Start.{Start}
use Rattle.kx_lex.specs.declared.start.Start.TheVariants.{Word, Digit, Blank, Hash, Slash, Quote, Angle, Mark, Nothing}

unfoldable pub start_of : ℕ → Start
start_of b =
    if is_blank b then Blank
    else (if b == 35 then Hash
    else (if b == 47 then Slash
    else (if is_word_start b then Word
    else (if is_ascii_digit b then Digit
    else (if b == 34 then Quote
    else (if b == 60 then Angle
    else (if is_mark b then Mark
    else Nothing)))))))

-- What text between quotes stands for: a backslash and n, t, r, b, f, v or e is a control byte; a backslash and one to
-- three octal digits, as many as keep the value within a byte, is that byte; a backslash and another byte is that byte.
use Rattle.std.specs.Prelude.{ℕ, Bool, List, [], ◌∷◌, ◌+◌, ◌*◌, ◌-◌, ◌==◌, ◌&&◌, nat_le, nat_lt, if◌then◌else◌}
use Rattle.kx_lex.specs.declared.string.EscapeState.{EscapeState}
use Rattle.kx_lex.specs.declared.string.EscapeState.TheVariants.{Plain, Escaped, Octal}

abbrev pub escaped_byte : ℕ → ℕ
escaped_byte b = if b == 110 then 10 else (if b == 116 then 9 else (if b == 114 then 13 else (if b == 98 then 8 else (if b == 102 then 12 else (if b == 118 then 11 else (if b == 101 then 27 else b))))))

abbrev pub is_octal : ℕ → Bool
is_octal b = nat_le 48 b && nat_le b 55

-- the digit belongs to the octal number
abbrev pub octal_goes_on : ℕ → ℕ → ℕ → Bool
octal_goes_on value count b = (is_octal b && nat_lt count 3) && nat_lt (value * 8 + (b - 48)) 256

-- after bytes of a state, what the text stands for
abbrev pub text_value : EscapeState → List ℕ → List ℕ
text_value Plain [] = []
text_value Plain (b ∷ bs) = if b == 92 then text_value Escaped bs else b ∷ text_value Plain bs
text_value Escaped [] = []
text_value Escaped (b ∷ bs) = if is_octal b then text_value (Octal (b - 48) 1) bs else escaped_byte b ∷ text_value Plain bs
text_value (Octal value count) [] = value ∷ []
text_value (Octal value count) (b ∷ bs) = if octal_goes_on value count b then text_value (Octal (value * 8 + (b - 48)) (count + 1)) bs else value ∷ (if b == 92 then text_value Escaped bs else b ∷ text_value Plain bs)

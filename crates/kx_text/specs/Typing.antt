-- What the keysyms of a key type, under the modifiers that are active and that they don't consume.
use Rattle.std.specs.Prelude.{ℕ, ◌-◌, ◌%◌, ◌==◌, Bool, not, ◌||◌, List, [], ◌∷◌, ◌++◌, Option, None, Some, if◌then◌else◌}
use Rattle.std.specs.Int.{is_in_range}
use Rattle.std.specs.Int.RustNames.{bit_and}
use Rattle.std.specs.Char.{encode_utf8}
use Rattle.kx_text.specs.Case.{upper}
use Rattle.kx_text.specs.Characters.{character_of}

abbrev pub has : ℕ → ℕ → Bool
has mods modifier = not (bit_and mods modifier == 0)

-- Lock is 2, Control is 4
abbrev pub capital : ℕ → ℕ → ℕ
capital mods keysym = if has mods 2 then upper keysym else keysym

abbrev pub one_keysym : ℕ → List ℕ → Option ℕ
one_keysym mods [] = None
one_keysym mods (keysym ∷ []) = Some (capital mods keysym)
one_keysym mods (first ∷ second ∷ keysyms) = None

-- of `@` to `~` and the space the last five bits, of `2` to `8` NUL, ESC, FS, GS, RS, US and DEL, of `/` US, and any other itself
abbrev pub control : ℕ → ℕ
control c =
    if is_in_range 0x40 0x7e c || (c == 0x20) then c % 32
    else if c == 0x32 then 0
    else if is_in_range 0x33 0x37 c then c - 24
    else if c == 0x38 then 0x7f
    else if c == 0x2f then 0x1f
    else c

abbrev pub typed : ℕ → ℕ → ℕ
typed mods character = if has mods 4 then control character else character

abbrev pub text_of_character : ℕ → Option ℕ → List ℕ
text_of_character mods None = []
text_of_character mods (Some character) = encode_utf8 (typed mods character)

abbrev pub text_of_one : ℕ → ℕ → List ℕ
text_of_one mods keysym = text_of_character mods (character_of (capital mods keysym))

-- the characters of all keysyms, where each has one
abbrev pub in_front : Option ℕ → Option (List ℕ) → Option (List ℕ)
in_front None rest = None
in_front (Some character) None = None
in_front (Some character) (Some rest) = Some (encode_utf8 character ++ rest)

unfoldable pub joined : List ℕ → Option (List ℕ)
joined [] = Some []
joined (keysym ∷ keysyms) = in_front (character_of keysym) (joined keysyms)

abbrev pub or_nothing : Option (List ℕ) → List ℕ
or_nothing None = []
or_nothing (Some text) = text

abbrev pub text_of_each : List ℕ → List ℕ
text_of_each keysyms = or_nothing (joined keysyms)

abbrev pub text_of : ℕ → List ℕ → List ℕ
text_of mods [] = []
text_of mods (keysym ∷ []) = text_of_one mods keysym
text_of mods (first ∷ second ∷ keysyms) = text_of_each (first ∷ second ∷ keysyms)

-- What the front of a text begins: the tokens of the text format v1 of libxkbcommon, each the longest of its kind.
use Rattle.std.specs.Prelude.{ℕ, Bool, false, List, [], ◌∷◌, ◌+◌, ◌==◌, ◌&&◌, ◌||◌, not, if◌then◌else◌, drop, slice_index, take}
use Rattle.std.specs.Char.{is_ascii_digit, is_ascii_hexdigit}
use Rattle.std.specs.List.{prefix_len}
use Rattle.kx_basics.specs.KeyNames.{is_key_byte}
use Rattle.kx_lex.specs.Bytes.{is_word_start, is_word_byte, is_mark, is_blank, is_not_line_feed}
use Rattle.kx_lex.specs.Keywords.{keyword_of}
use Rattle.kx_lex.specs.declared.scan.Extent.{Extent}
use Rattle.kx_lex.specs.declared.scan.Extent.TheVariants.{Closed, Open}
use Rattle.kx_lex.specs.declared.scan.Piece.{Piece}
use Rattle.kx_lex.specs.declared.scan.Piece.TheVariants.{End, Gap, Lexeme, BadByte, OpenString, OpenKeyName}
use Rattle.kx_lex.specs.declared.token.TokenKind.TheVariants.{Word, Number, Decimal, KeyName, Text, Mark}

-- a # or two slashes begin a comment, which runs to before the next line feed
abbrev pub begins_comment : List ℕ → Bool
begins_comment bs = (slice_index bs 0 == 35) || ((slice_index bs 0 == 47) && (slice_index bs 1 == 47))

abbrev pub extent_len : Extent → ℕ
extent_len (Closed n) = n
extent_len (Open n) = n

-- the bytes that a piece takes
abbrev pub piece_len : Piece → ℕ
piece_len End = 0
piece_len (Gap n) = n
piece_len (Lexeme _ n) = n
piece_len BadByte = 1
piece_len (OpenString n) = n
piece_len (OpenKeyName n) = n

abbrev pub longer : ℕ → Extent → Extent
longer n (Closed k) = Closed (n + k)
longer n (Open k) = Open (n + k)

-- how far text goes that begins after its opening quote: to its closing quote, or open to a line feed or the end;
-- a backslash takes the byte after it, which may not be a line feed
abbrev pub extent : Bool → List ℕ → Extent
extent escaped [] = Open 0
extent escaped (b ∷ bs) = if b == 10 then Open 0 else (if (b == 34) && not escaped then Closed 1 else longer 1 (extent ((b == 92) && not escaped) bs))

-- from the opening quote
abbrev pub string_piece : Extent → Piece
string_piece (Closed n) = Lexeme Text (n + 1)
string_piece (Open n) = OpenString (n + 1)

-- the bytes are those after the <
unfoldable pub key_name_piece : List ℕ → Piece
key_name_piece bs = if slice_index bs (prefix_len is_key_byte bs) == 62 then Lexeme KeyName (prefix_len is_key_byte bs + 2) else OpenKeyName (prefix_len is_key_byte bs + 1)

-- 0x or 0X and a hexadecimal digit
abbrev pub begins_hex : List ℕ → Bool
begins_hex bs = ((slice_index bs 0 == 48) && ((slice_index bs 1 == 120) || (slice_index bs 1 == 88))) && is_ascii_hexdigit (slice_index bs 2)

-- a decimal has a point, and then digits or none; a hexadecimal number takes no point
abbrev pub decimal_piece : ℕ → List ℕ → Piece
decimal_piece n bs = if slice_index bs n == 46 then Lexeme Decimal (n + 1 + prefix_len is_ascii_digit (drop (n + 1) bs)) else Lexeme Number n

unfoldable pub number_piece : List ℕ → Piece
number_piece bs = if begins_hex bs then Lexeme Number (2 + prefix_len is_ascii_hexdigit (drop 2 bs)) else decimal_piece (prefix_len is_ascii_digit bs) bs

-- so many bytes as a word, with the keyword that they spell
abbrev pub word_piece : ℕ → List ℕ → Piece
word_piece n bs = Lexeme (Word (keyword_of (take n bs))) n

-- a comment is taken wherever one can begin
unfoldable pub piece : List ℕ → Piece
piece [] = End
piece (b ∷ bs) =
    if is_blank b then Gap (prefix_len is_blank (b ∷ bs))
    else (if begins_comment (b ∷ bs) then Gap (prefix_len is_not_line_feed (b ∷ bs))
    else (if is_word_start b then word_piece (prefix_len is_word_byte (b ∷ bs)) (b ∷ bs)
    else (if is_ascii_digit b then number_piece (b ∷ bs)
    else (if b == 34 then string_piece (extent false bs)
    else (if b == 60 then key_name_piece bs
    else (if is_mark b then Lexeme (Mark b) 1
    else BadByte))))))

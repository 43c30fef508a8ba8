-- Tokens by their kind and their bytes in the text.
use Rattle.std.specs.Prelude.{ℕ, Bool, true, false, List, [], ◌∷◌, ◌+◌, ◌-◌, not, drop, if◌then◌else◌, slice_range, Some}
use Rattle.std.specs.Str.Parse.{digits_value}
use Rattle.kx_lex.specs.contracts.token.TokenKindPartialEq.TheImpl.{ghosts}
use Rattle.kx_lex.specs.Pieces.{begins_hex}
use Rattle.kx_lex.specs.declared.keyword.Keyword.{Keyword}
use Rattle.kx_lex.specs.declared.token.Token.{Token}
use Rattle.kx_lex.specs.declared.token.TokenKind.{TokenKind}
use Rattle.kx_lex.specs.declared.token.TokenKind.TheVariants.{Word, Number, KeyName, Text, Mark}

abbrev pub slice_of : List ℕ → Token → List ℕ
slice_of text t = slice_range text t.span.start t.span.stop

-- without the bytes that enclose it
abbrev pub inner_of : List ℕ → Token → List ℕ
inner_of text t = slice_range text (t.span.start + 1) (t.span.stop - 1)

abbrev pub is_word_kind : TokenKind → Bool
is_word_kind (Word k) = true
is_word_kind _ = false

-- by the equality that derives
abbrev pub is_of : TokenKind → Token → Bool
is_of kind t = ghosts.eq t.kind kind

abbrev pub is_word : Token → Bool
is_word t = is_word_kind t.kind

abbrev pub is_number : Token → Bool
is_number = is_of Number

abbrev pub is_key_name : Token → Bool
is_key_name = is_of KeyName

abbrev pub is_text : Token → Bool
is_text = is_of Text

-- the mark of this byte
abbrev pub is_mark : ℕ → Token → Bool
is_mark byte = is_of (Mark byte)

-- this word, in capital letters or small
unfoldable pub is_keyword : Keyword → Token → Bool
is_keyword keyword = is_of (Word (Some keyword))

-- the first token passes the test
abbrev pub front : (Token → Bool) → List Token → Bool
front test [] = false
front test (t ∷ ts) = test t

-- the second token does
abbrev pub second : (Token → Bool) → List Token → Bool
second test ts = front test (drop 1 ts)

-- the first token isn't this mark
abbrev pub before_mark : ℕ → List Token → Bool
before_mark byte ts = front (λ t. not (is_mark byte t)) ts

-- hexadecimal after 0x, else decimal
unfoldable pub number_value : List ℕ → ℕ
number_value digits = if begins_hex digits then digits_value 16 (drop 2 digits) else digits_value 10 digits

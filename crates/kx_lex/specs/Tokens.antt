-- The productions that take one token, and the marks that productions want.
use Rattle.std.specs.Prelude.{ℕ, List, ◌^◌, nat_lt, Result, Ok, Err, if◌then◌else◌}
use Rattle.std.specs.List.{list_all}
use Rattle.kx_basics.specs.KeyNames.{is_key_byte}
use Rattle.kx_lex.specs.Strings.{text_value}
use Rattle.kx_lex.specs.declared.string.EscapeState.TheVariants.{Plain}
use Rattle.kx_lex.specs.declared.keyword.Keyword.{Keyword}
use Rattle.kx_lex.specs.declared.token.Token.{Token}
use Rattle.kx_lex.specs.declared.token.Span.{Span}
use Rattle.kx_lex.specs.declared.fault.Fault.{Fault}
use Rattle.kx_lex.specs.declared.fault.Fault.TheVariants.{NumberTooBig}
use Rattle.kx_lex.specs.declared.name.Name.{Name}
use Rattle.kx_lex.specs.declared.name.Number.{Number as NumberValue}
use Rattle.kx_lex.specs.Kinds.{slice_of, inner_of, is_word, is_number, is_key_name, is_text, is_mark, is_keyword, number_value}
use Rattle.kx_lex.specs.Stops.{syntax_at}
use Rattle.kx_lex.specs.Production.{Production, ◌>>=◌, give, one, one_as}

-- The marks that productions want, by their byte: { } [ ] ( ) ; , . = + - !
abbrev pub open_brace : ℕ
open_brace = 123

abbrev pub close_brace : ℕ
close_brace = 125

abbrev pub open_bracket : ℕ
open_bracket = 91

abbrev pub close_bracket : ℕ
close_bracket = 93

abbrev pub open_paren : ℕ
open_paren = 40

abbrev pub close_paren : ℕ
close_paren = 41

abbrev pub semicolon : ℕ
semicolon = 59

abbrev pub comma : ℕ
comma = 44

abbrev pub point : ℕ
point = 46

abbrev pub equals : ℕ
equals = 61

abbrev pub plus : ℕ
plus = 43

abbrev pub minus : ℕ
minus = 45

abbrev pub bang : ℕ
bang = 33

unfoldable pub mark : List ℕ → ℕ → Production Token
mark text byte = one text (is_mark byte)

unfoldable pub keyword : List ℕ → Keyword → Production Token
keyword text wanted = one text (is_keyword wanted)

-- a word as it is written
unfoldable pub word : List ℕ → Production Name
word text = do
  t ← one text is_word
  give (record { bytes = slice_of text t; span = t.span })

-- the name between < and >, where each byte is a key's; tokens that a caller gives may enclose others, since they need be no reading
abbrev pub enclosed : List ℕ → Token → Result Name Fault
enclosed text t = if list_all is_key_byte (inner_of text t) then Ok (record { bytes = inner_of text t; span = t.span }) else Err (syntax_at t)

-- a key's name without < and >
unfoldable pub key_name : List ℕ → Production Name
key_name text = one_as text is_key_name (enclosed text)

-- what text between quotes stands for
unfoldable pub text_name : List ℕ → Production Name
text_name text = do
  t ← one text is_text
  give (record { bytes = text_value Plain (inner_of text t); span = t.span })

-- a number may be at most 4,294,967,295
abbrev pub measured : ℕ → Span → Result NumberValue Fault
measured value span = if nat_lt value (2 ^ 32) then Ok (record { value = value; span = span }) else Err (NumberTooBig (record { file = 0; span = span }))

unfoldable pub number : List ℕ → Production NumberValue
number text = one_as text is_number (λ t. measured (number_value (slice_of text t)) t.span)

-- ---- Under names, for clauses and proofs

abbrev pub enclosed_name : List ℕ → Token → Name
enclosed_name text t = record { bytes = inner_of text t; span = t.span }

abbrev pub too_big : Span → Result NumberValue Fault
too_big span = Err (NumberTooBig (record { file = 0; span = span }))

-- The token reading of a text: blanks, comments and the tokens' slices in order.
use Rattle.std.specs.Prelude.{ℕ, List, [], ◌∷◌, ◌+◌, ◌≡◌, ◌==◌, ◌&&◌, if◌then◌else◌, drop, slice_index, length, min}
use Rattle.kx_lex.specs.Pieces.{piece}
use Rattle.kx_lex.specs.declared.scan.Piece.TheVariants as begins
use Rattle.kx_lex.specs.declared.token.Token.{Token}
use Rattle.kx_lex.specs.declared.token.TokenKind.{TokenKind}
use Rattle.kx_lex.specs.declared.token.Span.{Span}
use Rattle.kx_lex.specs.declared.fault.At.{At}
use Rattle.kx_lex.specs.declared.fault.Fault.{Fault}
use Rattle.kx_lex.specs.declared.fault.Fault.TheVariants as fault

-- n bytes from an offset on
abbrev pub span_of : ℕ → ℕ → Span
span_of offset n = record { start = offset; stop = offset + n }

-- the same, in the text that is being read
abbrev pub at_offset : ℕ → ℕ → At
at_offset offset n = record { file = 0; span = span_of offset n }

abbrev pub token_of : TokenKind → ℕ → ℕ → Token
token_of kind offset n = record { kind = kind; span = span_of offset n }

-- the bytes, from an offset on, are read as these tokens
pub data Reads : ℕ → List ℕ → List Token → Type 0 where
  ended : {offset : ℕ} {bs : List ℕ} → piece bs ≡ begins.End → Reads offset bs []
  skipped : {offset : ℕ} {bs : List ℕ} {ts : List Token} (n : ℕ) → piece bs ≡ begins.Gap n → Reads (offset + n) (drop n bs) ts → Reads offset bs ts
  taken : {offset : ℕ} {bs : List ℕ} {ts : List Token} (kind : TokenKind) (n : ℕ) → piece bs ≡ begins.Lexeme kind n → Reads (offset + n) (drop n bs) ts → Reads offset bs (token_of kind offset n ∷ ts)

-- the bytes, from an offset on, are read up to what begins no token
pub data Stops : ℕ → List ℕ → Fault → Type 0 where
  bad_byte : {offset : ℕ} {bs : List ℕ} → piece bs ≡ begins.BadByte → Stops offset bs (fault.BadByte (at_offset offset 1))
  open_string : {offset : ℕ} {bs : List ℕ} (n : ℕ) → piece bs ≡ begins.OpenString n → Stops offset bs (fault.OpenString (at_offset offset n))
  open_key_name : {offset : ℕ} {bs : List ℕ} (n : ℕ) → piece bs ≡ begins.OpenKeyName n → Stops offset bs (fault.OpenKeyName (at_offset offset n))
  past_gap : {offset : ℕ} {bs : List ℕ} {f : Fault} (n : ℕ) → piece bs ≡ begins.Gap n → Stops (offset + n) (drop n bs) f → Stops offset bs f
  past_token : {offset : ℕ} {bs : List ℕ} {f : Fault} (kind : TokenKind) (n : ℕ) → piece bs ≡ begins.Lexeme kind n → Stops (offset + n) (drop n bs) f → Stops offset bs f

-- the three bytes of a byte order mark at the head count as blanks
abbrev pub mark_len : List ℕ → ℕ
mark_len text = if (slice_index text 0 == 239) && ((slice_index text 1 == 187) && (slice_index text 2 == 191)) then 3 else 0

pub record IsReading (text : List ℕ) (tokens : List Token) : Type 0 where
  pub reads : Reads (mark_len text) (drop (mark_len text) text) tokens

pub record StopsWith (text : List ℕ) (f : Fault) : Type 0 where
  pub stops : Stops (mark_len text) (drop (mark_len text) text) f

-- all of a text; a place counts no further than 4,294,967,295
abbrev pub whole_of : List ℕ → At
whole_of text = record { file = 0; span = record { start = 0; stop = min (length text) 4294967295 } }

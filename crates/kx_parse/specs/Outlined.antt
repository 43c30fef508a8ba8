-- The outline of a text as a function of its bytes.
use Rattle.std.specs.Prelude.{ℕ, ◌+◌, zero, suc, List, [], ◌∷◌, drop, length, Option, None, Some, Ok, Err}
use Rattle.std.specs.Option.{option_and_then, option_map}
use Rattle.kx_lex.specs.Parsing.{Read}
use Rattle.kx_lex.specs.Pieces.{piece}
use Rattle.kx_lex.specs.Reading.{mark_len, token_of}
use Rattle.kx_lex.specs.declared.scan.Piece.{Piece}
use Rattle.kx_lex.specs.declared.scan.Piece.TheVariants as begins
use Rattle.kx_lex.specs.declared.token.Span.{Span}
use Rattle.kx_lex.specs.declared.token.Token.{Token}
use Rattle.kx_parse.specs.Outline.{outline_from, placed_sections}
use Rattle.kx_parse.specs.declared.outline.Outline.{Outline}
use Rattle.kx_tree.specs.declared.tree.Section.{Section}

-- the tokens of bytes from an offset on that begin with a piece, and how those after the piece are read
abbrev pub tokens_at : (ℕ → List ℕ → Option (List Token)) → ℕ → List ℕ → Piece → Option (List Token)
tokens_at behind offset bs begins.End = Some []
tokens_at behind offset bs (begins.Gap n) = behind (offset + n) (drop n bs)
tokens_at behind offset bs (begins.Lexeme kind n) = option_map (λ ts. token_of kind offset n ∷ ts) (behind (offset + n) (drop n bs))
tokens_at behind offset bs begins.BadByte = None
tokens_at behind offset bs (begins.OpenString n) = None
tokens_at behind offset bs (begins.OpenKeyName n) = None

-- the tokens of bytes from an offset on, within so many pieces
abbrev pub tokens_from : ℕ → ℕ → List ℕ → Option (List Token)
tokens_from zero offset bs = None
tokens_from (suc pieces) offset bs = tokens_at (tokens_from pieces) offset bs (piece bs)

-- the tokens that a text is read as, where it has a reading
unfoldable pub tokens_of : List ℕ → Option (List Token)
tokens_of text = tokens_from (suc (length text)) (mark_len text) (drop (mark_len text) text)

-- the outline of the sections that are read
abbrev pub outline_read : Read (List (Section × Span)) → Option Outline
outline_read (Ok p) = Some (outline_from p.0)
outline_read (Err e) = None

-- what a text is outlined as, where it is a file that has a tree
unfoldable pub outlined : List ℕ → Option Outline
outlined text = option_and_then (λ ts. outline_read ((placed_sections text).read ts)) (tokens_of text)

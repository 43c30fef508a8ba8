-- What the refusals of a source and of a file mean, in words of tokens: the first token that may not stand there or the
-- end; or a number of 2^32 or more, in a section that isn't one of geometry.
use Rattle.std.specs.Prelude.{ℕ, false, List, [], ◌∷◌, ◌≡◌}
use Rattle.kx_lex.specs.declared.keyword.Keyword.TheVariants as keywords
use Rattle.kx_lex.specs.declared.token.Token.{Token}
use Rattle.kx_lex.specs.declared.fault.Fault.{Fault}
use Rattle.kx_lex.specs.Stops.{StopsWithin}
use Rattle.kx_lex.specs.Production.{Production, ◌>>=◌, give}
use Rattle.kx_lex.specs.Kinds.{is_keyword, front}
use Rattle.kx_lex.specs.Tokens.{mark, keyword, open_brace}
use Rattle.kx_tree.specs.Sections.{flags, optional_text, section}
use Rattle.kx_tree.specs.declared.tree.Flag.{Flag}
use Rattle.kx_tree.specs.declared.tree.Section.{Section}

-- sections that stand one after another
abbrev pub stand : (text : List ℕ) → List Section → List Token → List Token → Type 0
stand text [] ts rest = ts ≡ rest
stand text (x ∷ xs) ts rest = (mid : List Token) × (section text).spells ts x mid × stand text xs mid rest

-- reading stops in a section that isn't geometry: after whole sections and the flags of one more, where xkb_geometry
-- doesn't stand
pub record InPlainSection (text : List ℕ) (body : List Token) (e : Fault) : Type 0 where
  pub sections : List Section
  pub here : List Token
  pub whole : stand text sections body here
  pub section_flags : List Flag
  pub kind : List Token
  pub flagged : (flags text).spells here section_flags kind
  pub plain : front (is_keyword keywords.XkbGeometry) kind ≡ false
  pub stops : StopsWithin text kind e

-- what stands before the sections of a source
unfoldable pub source_head : List ℕ → Production (Unit {0})
source_head text = do
  _ ← flags text
  _ ← keyword text keywords.XkbKeymap
  _ ← optional_text text
  _ ← mark text open_brace
  give tt

-- the same of a source, after its head
pub record InSourceSection (text : List ℕ) (tokens : List Token) (e : Fault) : Type 0 where
  pub body : List Token
  pub head : (source_head text).spells tokens tt body
  pub within : InPlainSection text body e

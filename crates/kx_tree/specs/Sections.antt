-- What sections hold, sections, and what a source and a file are.
use Rattle.std.specs.Prelude.{ℕ, Bool, true, ◌&&◌, ◌||◌, List, [], Option, Some, is_some, if◌then◌else◌, ◌∷◌, codes}
use Rattle.std.specs.Map.{lookup}
use Rattle.kx_lex.specs.declared.keyword.Keyword.TheVariants as keywords
use Rattle.kx_lex.specs.declared.token.Token.{Token}
use Rattle.kx_lex.specs.declared.token.Span.{Span}
use Rattle.kx_lex.specs.declared.fault.Fault.{Fault}
use Rattle.kx_lex.specs.Production.{Production, ◌>>=◌, give, many, either, known, optional, fronted, at_end}
use Rattle.kx_lex.specs.Kinds.{is_word, is_key_name, is_text, is_mark, is_keyword, front, second, before_mark}
use Rattle.kx_lex.specs.Tokens.{mark, keyword, text_name, open_brace, close_brace, semicolon, bang}
use Rattle.kx_tree.specs.Forms.{after, between, both, ended, made3, placed}
use Rattle.kx_tree.specs.Geometry.{geometry}
use Rattle.kx_tree.specs.Statements.{statement}
use Rattle.kx_lex.specs.declared.name.Name.{Name}
use Rattle.kx_tree.specs.declared.tree.Statement.{Statement}
use Rattle.kx_tree.specs.declared.tree.Statement.TheVariants as statements
use Rattle.kx_tree.specs.declared.tree.Mode.{Mode}
use Rattle.kx_tree.specs.declared.tree.Mode.TheVariants.{Augment, Override, Replace}
use Rattle.kx_tree.specs.declared.tree.Item.{Item}
use Rattle.kx_tree.specs.declared.tree.Item.TheVariants as items
use Rattle.kx_tree.specs.declared.tree.Stated.{Stated}
use Rattle.kx_tree.specs.declared.tree.Kind.{Kind}
use Rattle.kx_tree.specs.declared.tree.Kind.TheVariants.{Keycodes, Types, Compat, Symbols, Geometry}
use Rattle.kx_tree.specs.declared.tree.Flag.{Flag}
use Rattle.kx_tree.specs.declared.tree.Flag.TheVariants.{Default, Partial, Hidden, AlphanumericKeys, ModifierKeys, KeypadKeys, FunctionKeys, AlternateGroup}
use Rattle.kx_tree.specs.declared.tree.Section.{Section}
use Rattle.kx_tree.specs.declared.tree.Tree.{Tree}

-- alternate is read as override
unfoldable pub mode_of : Token → Option Mode
mode_of t = lookup (λ k. is_keyword k t) ((keywords.Augment, Augment) ∷ (keywords.Override, Override) ∷ (keywords.Replace, Replace) ∷ (keywords.Alternate, Override) ∷ [])

-- include means override
unfoldable pub join_of : Token → Option Mode
join_of t = if is_keyword keywords.Include t then Some Override else mode_of t

-- a word that joins, before text
abbrev pub begins_include : List Token → Bool
begins_include ts = front (λ t. is_some (join_of t)) ts && second is_text ts

-- a mode, before what can begin a statement; elsewhere its word is a plain one
abbrev pub begins_moded : List Token → Bool
begins_moded ts = front (λ t. is_some (mode_of t)) ts && ((second is_word ts || second is_key_name ts) || second (is_mark bang) ts)

unfoldable pub join : List ℕ → Production Mode
join text = known text join_of

unfoldable pub mode : List ℕ → Production Mode
mode text = known text mode_of

unfoldable pub include : List ℕ → Production Item
include text = placed (λ i span. items.Include i.0 i.1 span) (both (join text) (text_name text))

-- a statement in a mode, with its first token and its ;
unfoldable pub moded : List ℕ → Mode → Production (Mode × Statement × Span)
moded text m = fronted (statement text) >>= (λ s. after (mark text semicolon) (give (m, s.0, s.1)))

unfoldable pub modal : List ℕ → Production (Mode × Statement × Span)
modal text = mode text >>= moded text

unfoldable pub own : List ℕ → Production Item
own text = placed (λ s span. items.Statement (record { mode = s.0; statement = s.1; first = s.2; span = span })) (either begins_moded (modal text) (moded text Override))

unfoldable pub item : List ℕ → Production Item
item text = either begins_include (include text) (own text)

-- the word that a fault of an unknown field names: a field's word, and of another statement its first token
abbrev pub word_or : Span → Statement → Span
word_or first (statements.Field f) = f.place.word.span
word_or first _ = first

abbrev pub word_span : Stated → Span
word_span s = word_or s.first s.statement

-- the word of a kind, by which the folder of its files is named
abbrev pub kind_word : Kind → List ℕ
kind_word Keycodes = codes "keycodes"
kind_word Types = codes "types"
kind_word Compat = codes "compat"
kind_word Symbols = codes "symbols"
kind_word Geometry = codes "geometry"

unfoldable pub kind_of : Token → Option Kind
kind_of t = lookup (λ k. is_keyword k t) (
    (keywords.XkbKeycodes, Keycodes) ∷ (keywords.XkbTypes, Types) ∷ (keywords.XkbSymbols, Symbols) ∷ (keywords.XkbCompatibility, Compat)
    ∷ (keywords.XkbCompat, Compat) ∷ (keywords.XkbCompatMap, Compat) ∷ (keywords.XkbCompatibilityMap, Compat) ∷ [])

unfoldable pub flag_of : Token → Option Flag
flag_of t = lookup (λ k. is_keyword k t) (
    (keywords.Default, Default) ∷ (keywords.Partial, Partial) ∷ (keywords.Hidden, Hidden) ∷ (keywords.AlphanumericKeys, AlphanumericKeys)
    ∷ (keywords.ModifierKeys, ModifierKeys) ∷ (keywords.KeypadKeys, KeypadKeys) ∷ (keywords.FunctionKeys, FunctionKeys)
    ∷ (keywords.AlternateGroup, AlternateGroup) ∷ [])

unfoldable pub kind : List ℕ → Production Kind
kind text = known text kind_of

unfoldable pub flag : List ℕ → Production Flag
flag text = known text flag_of

unfoldable pub flags : List ℕ → Production (List Flag)
flags text = many (front (λ t. is_some (flag_of t))) (flag text)

unfoldable pub optional_text : List ℕ → Production (Option Name)
optional_text text = optional (front is_text) (text_name text)

unfoldable pub held_items : List ℕ → Production (List Item)
held_items text = between text open_brace close_brace (many (before_mark close_brace) (item text))

unfoldable pub plain_section : List ℕ → List Flag → Production Section
plain_section text fs = made3 (λ k n is. record { flags = fs; kind = k; name = n; items = is }) (kind text) (optional_text text) (held_items text)

unfoldable pub geometry_body : List ℕ → Production (Unit {0})
geometry_body text = after (mark text open_brace) (ended text close_brace (geometry text))

-- geometry is read over, and kept as an empty section
unfoldable pub geometry_section : List ℕ → List Flag → Production Section
geometry_section text fs = after (keyword text keywords.XkbGeometry)
    (optional_text text >>= (λ n. after (geometry_body text) (give (record { flags = fs; kind = Geometry; name = n; items = [] }))))

unfoldable pub flagged : List ℕ → List Flag → Production Section
flagged text fs = either (front (is_keyword keywords.XkbGeometry)) (geometry_section text fs) (plain_section text fs)

unfoldable pub section : List ℕ → Production Section
section text = flags text >>= (λ fs. ended text semicolon (flagged text fs))

unfoldable pub held_sections : List ℕ → Production (List Section)
held_sections text = between text open_brace close_brace (many (before_mark close_brace) (section text))

-- a keymap's source
unfoldable pub source : List ℕ → Production Tree
source text = do
  _ ← flags text
  _ ← keyword text keywords.XkbKeymap
  _ ← optional_text text
  ss ← held_sections text
  _ ← mark text semicolon
  _ ← at_end
  give (record { sections = ss })

-- what an include's file holds
unfoldable pub file : List ℕ → Production Tree
file text = do
  ss ← many (front (λ _. true)) (section text)
  _ ← at_end
  give (record { sections = ss })

-- the tokens of a text spell a source's tree
pub record Spells (text : List ℕ) (tokens : List Token) (tree : Tree) : Type 0 where
  pub spelled : (source text).spells tokens tree []

-- the front of the tokens is spelled, and what comes next may not stand there
pub record StopsWith (text : List ℕ) (tokens : List Token) (e : Fault) : Type 0 where
  pub stopped : (source text).blames tokens e

-- the same of a file
pub record SpellsFile (text : List ℕ) (tokens : List Token) (tree : Tree) : Type 0 where
  pub spelled : (file text).spells tokens tree []

pub record FileStopsWith (text : List ℕ) (tokens : List Token) (e : Fault) : Type 0 where
  pub stopped : (file text).blames tokens e

-- The outline of a file: its sections without their statements, and where each stands.
use Rattle.std.specs.Prelude.{ℕ, Bool, true, false, List, [], ◌∷◌, ◌≡◌, Option, None, Some, filter, if◌then◌else◌, is_some, map, slice_get}
use Rattle.kx_lex.specs.declared.keyword.Keyword.{Keyword}
use Rattle.kx_lex.specs.declared.keyword.Keyword.TheVariants as keywords
use Rattle.kx_lex.specs.declared.name.Name.{Name}
use Rattle.kx_lex.specs.declared.token.Span.{Span}
use Rattle.kx_lex.specs.declared.token.Token.{Token}
use Rattle.kx_lex.specs.declared.token.TokenKind.TheVariants.{Word}
use Rattle.kx_lex.specs.Kinds.{before_mark, front, is_keyword}
use Rattle.kx_lex.specs.Parsing.{done}
use Rattle.kx_lex.specs.Passing.{Ends, Lexes, ReadsEnd}
use Rattle.kx_lex.specs.Production.{Production, ◌>>=◌, at_end, give, many, spanned}
use Rattle.kx_lex.specs.Reading.{IsReading, token_of}
use Rattle.kx_lex.specs.Tokens.{close_brace, keyword, mark, open_brace, semicolon}
use Rattle.kx_tree.specs.Forms.{after, ended}
use Rattle.kx_tree.specs.Geometry.{geometry_read}
use Rattle.kx_tree.specs.Sections.{Spells, SpellsFile, begins_include, begins_moded, flag_of, flags, geometry_body, held_items, item, join_of, kind_of, mode_of, optional_text, section}
use Rattle.kx_parse.specs.declared.outline.Outline.{Outline}
use Rattle.kx_tree.specs.declared.tree.Item.{Item}
use Rattle.kx_tree.specs.declared.tree.Item.TheVariants as items
use Rattle.kx_tree.specs.declared.tree.Kind.{Kind}
use Rattle.kx_tree.specs.declared.tree.Kind.TheVariants.{Geometry}
use Rattle.kx_tree.specs.declared.tree.Mode.{Mode}
use Rattle.kx_tree.specs.declared.tree.Section.{Section}

abbrev pub is_include : Item → Bool
is_include (items.Include mode text span) = true
is_include (items.Statement stated) = false

-- a section without its statements
abbrev pub outline_of : Section → Section
outline_of s = record { flags = s.flags; kind = s.kind; name = s.name; items = filter is_include s.items }

-- sections one after another, each with where it stands, from its first token to its ;
abbrev pub placed_sections : List ℕ → Production (List (Section × Span))
placed_sections text = many (front (λ _. true)) (spanned (section text))

-- the same up to the brace that closes them, or to the end
abbrev pub sections_before : List ℕ → Production (List (Section × Span))
sections_before text = many (before_mark close_brace) (spanned (section text))

-- sections without their statements, and their places
abbrev pub outline_from : List (Section × Span) → Outline
outline_from sections = record { sections = map (λ s. outline_of s.0) sections; places = map (λ s. s.1) sections }

-- the text has a reading, its tokens spell a file's tree, and these are its sections without their statements
pub record IsOutline (text : List ℕ) (outline : Outline) : Type 0 where
  pub tokens : List Token
  pub sections : List (Section × Span)
  pub reading : IsReading text tokens
  pub tree : SpellsFile text tokens (record { sections = map (λ s. s.0) sections })
  pub placed : (placed_sections text).spells tokens sections []
  pub outlined : outline.sections ≡ map (λ s. outline_of s.0) sections
  pub places : outline.places ≡ map (λ s. s.1) sections

-- of a keymap's source, what stands before its sections, and what after them
abbrev pub source_front : List ℕ → Production (Unit {0})
source_front text = after (flags text) (after (keyword text keywords.XkbKeymap) (after (optional_text text) (after (mark text open_brace) (give tt))))

abbrev pub source_end : List ℕ → Production (Unit {0})
source_end text = after (mark text close_brace) (after (mark text semicolon) at_end)

-- the sections of a source, each with where it stands
abbrev pub placed_source : List ℕ → Production (List (Section × Span))
placed_source text = after (source_front text) (sections_before text >>= (λ ss. after (source_end text) (give ss)))

-- the text has a reading, its tokens spell a source's tree, and these are its sections without their statements
pub record IsSourceOutline (text : List ℕ) (outline : Outline) : Type 0 where
  pub tokens : List Token
  pub sections : List (Section × Span)
  pub reading : IsReading text tokens
  pub tree : Spells text tokens (record { sections = map (λ s. s.0) sections })
  pub placed : (placed_source text).spells tokens sections []
  pub outlined : outline ≡ outline_from sections

-- of sections one after another those that are wanted: none is that no flag is for
abbrev pub built_from : List Bool → List Section → List (Option Section)
built_from wanted [] = []
built_from [] (s ∷ ss) = None ∷ built_from [] ss
built_from (w ∷ ws) (s ∷ ss) = (if w then Some s else None) ∷ built_from ws ss

-- whatever sections the text is spelled as, one that stands at the place is this one
abbrev pub IsSectionAt : List ℕ → Span → Section → Type 0
IsSectionAt text place section = (tokens : List Token) (sections : List (Section × Span)) → IsReading text tokens → (placed_sections text).spells tokens sections [] → (n : ℕ) (s : Section) → slice_get sections n ≡ Some (s, place) → s ≡ section

-- none of them stands at the place
abbrev pub HasNoSectionAt : List ℕ → Span → Type 0
HasNoSectionAt text place = (tokens : List Token) (sections : List (Section × Span)) → IsReading text tokens → (placed_sections text).spells tokens sections [] → (n : ℕ) (s : Section) → slice_get sections n ≡ Some (s, place) → ⊥

-- they don't stand at these places
abbrev pub StandElsewhere : List ℕ → List Span → Type 0
StandElsewhere text places = (tokens : List Token) (sections : List (Section × Span)) → IsReading text tokens → (placed_sections text).spells tokens sections [] → places ≡ map (λ s. s.1) sections → ⊥

-- and where they stand at these places, the one of a number is this one
abbrev pub IsNumbered : List ℕ → List Span → ℕ → Section → Type 0
IsNumbered text places number section = (tokens : List Token) (sections : List (Section × Span)) → IsReading text tokens → (placed_sections text).spells tokens sections [] → places ≡ map (λ s. s.1) sections → (place : Span) × (slice_get sections number ≡ Some (section, place))

-- ---- Under names, for clauses and proofs

-- no section begins here: they are closed, or the text ends
abbrev pub EndSections : List ℕ → Type 0
EndSections bs = (text : List ℕ) (ts : List Token) → Ends text bs → ReadsEnd text bs ts → before_mark close_brace ts ≡ false

-- the items of a section, and the brace that closes it
abbrev pub items_ended : List ℕ → Production (List Item)
items_ended text = ended text close_brace (many (before_mark close_brace) (item text))

-- what a section of a kind holds: geometry keeps nothing
abbrev pub held_by : List ℕ → Kind → Production (List Item)
held_by text Geometry = after (geometry_body text) (give [])
held_by text _ = held_items text

-- wherever the word that spells this keyword, or none, stands, a section of the kind begins
abbrev pub IsKindWord : Kind → Option Keyword → Type 0
IsKindWord Geometry keyword = (offset n : ℕ) → is_keyword keywords.XkbGeometry (token_of (Word keyword) offset n) ≡ true
IsKindWord kind keyword = (offset n : ℕ) → (is_keyword keywords.XkbGeometry (token_of (Word keyword) offset n) ≡ false) × (kind_of (token_of (Word keyword) offset n) ≡ Some kind)

-- geometry goes on, with so many open braces before it, to the brace that closes it
pub record PassesDeep (depth : ℕ) (bs end : List ℕ) : Type 0 where
  pub lexes : Lexes bs end
  pub read : (text : List ℕ) (us : List Token) → Ends text bs → ReadsEnd text bs us → (ts : List Token) × (geometry_read text depth us ≡ done tt ts) × ReadsEnd text end ts

-- an include whose word begins at an offset
abbrev pub include_at : Mode → ℕ → Name → Item
include_at mode start name = items.Include mode name (record { start = start; stop = name.span.stop })

-- wherever the word that spells this keyword, or none, stands, it joins an include in the mode
abbrev pub IsJoinWord : Mode → Option Keyword → Type 0
IsJoinWord mode keyword = (offset n : ℕ) → join_of (token_of (Word keyword) offset n) ≡ Some mode

-- before these bytes it begins no include
abbrev pub BeginsNoInclude : Option Keyword → List ℕ → Type 0
BeginsNoInclude keyword bs = (text : List ℕ) (offset n : ℕ) (ts : List Token) → ReadsEnd text bs ts → begins_include (token_of (Word keyword) offset n ∷ ts) ≡ false

-- it is a mode's
abbrev pub IsModeWord : Option Keyword → Type 0
IsModeWord keyword = (mode : Mode) × ((offset n : ℕ) → mode_of (token_of (Word keyword) offset n) ≡ Some mode)

-- before these bytes it begins no statement in a mode
abbrev pub BeginsNoModed : Option Keyword → List ℕ → Type 0
BeginsNoModed keyword bs = (text : List ℕ) (offset n : ℕ) (ts : List Token) → ReadsEnd text bs ts → begins_moded (token_of (Word keyword) offset n ∷ ts) ≡ false

-- no flag stands at the front
abbrev pub IsNoFlag : List ℕ → Type 0
IsNoFlag bs = (text : List ℕ) (ts : List Token) → Ends text bs → ReadsEnd text bs ts → front (λ t. is_some (flag_of t)) ts ≡ false

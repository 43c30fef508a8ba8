-- The tree of the source of components.
use Rattle.std.proofs.Common.{◌≡◌, ℕ, true, List, [], ◌∷◌, ◌++◌, codes, refl, ap, ap₂, ◌∙◌, subst, Option, Some, is_some}
use Rattle.std.specs.List.{flat_map, list_all}
use Rattle.std.specs.Option.{ok_or}
use Rattle.kx_lex.specs.Keywords.{spellings}
use Rattle.kx_lex.specs.Kinds.{before_mark, is_keyword}
use Rattle.kx_lex.specs.Production.{known}
use Rattle.kx_lex.specs.Stops.{syntax_at}
use Rattle.kx_lex.specs.Tokens.{close_brace, text_name}
use Rattle.kx_lex.specs.declared.keyword.Keyword.TheVariants as keywords
use Rattle.kx_lex.specs.declared.token.Span.{Span}
use Rattle.kx_lex.specs.declared.token.Token.{Token}
use Rattle.kx_lex.specs.declared.token.TokenKind.TheVariants.{Mark, Text, Word}
use Rattle.kx_tree.specs.Sections.{Spells, begins_include, include, item, join, join_of, mode_of, own, section}
use Rattle.kx_tree.specs.declared.tree.Item.{Item}
use Rattle.kx_tree.specs.declared.tree.Item.TheVariants as items
use Rattle.kx_tree.specs.declared.tree.Kind.{Kind}
use Rattle.kx_tree.specs.declared.tree.Kind.TheVariants as kinds
use Rattle.kx_tree.specs.declared.tree.Mode.{Mode}
use Rattle.kx_tree.specs.declared.tree.Mode.TheVariants.{Override}
use Rattle.kx_tree.specs.declared.tree.Section.{Section}
use Rattle.kx_tree.specs.declared.tree.Tree.{Tree}
use Rattle.kx_rules.specs.Rules.{Components}
use Rattle.kx_rules.specs.Sources.{is_plain}
use Rattle.roundtrip_text.specs.Slices.{Begins, Slice, more, none, slice}
use Rattle.roundtrip_text.specs.Spelled.{closed}
use Rattle.roundtrip_tree.specs.Shows.{AreShown, IsSpelled, ReadsAs, more as shows_more, none as shows_none}
use Rattle.roundtrip_tree.specs.Sources.{plain}
use Rattle.roundtrip_tree.proofs.Rows.{parted}
use Rattle.roundtrip_tree.proofs.Sections.{IsSection, keycodes_begun, symbols_begun}
use Rattle.roundtrip_tree.proofs.SourceSections.{compat_begun, each_section_reads, types_begun}
use Rattle.roundtrip_tree.proofs.Sources.{Front, one_more, source_spelled, word_starts}
use Rattle.roundtrip_tree.proofs.Spellings.{both_spelled, first_spelled, placed_spelled}
use Rattle.roundtrip_tree.proofs.Tokens.{text_spelled, token}
use Rattle.rules_tree.specs.Includes.{HasFourIncludes, IsInclude}
use Rattle.rules_tree.proofs.Texts.{PlainParts, include_slices, made_slices, part_slices, worth}

abbrev IsPlain : List ℕ → Type 0
IsPlain text = list_all is_plain text ≡ true

module _ (text : List ℕ) where
  joins : (span : Span) (rest : List Token) → IsSpelled (join text) (token (Word (Some keywords.Include)) span ∷ rest) Override rest
  unfolding join join_of is_keyword
  joins span rest = record { spelled = (token (Word (Some keywords.Include)) span, rest, (refl, refl), (refl, refl)) }

  include_reads : (name : List ℕ) → IsPlain name → (ts rest : List Token) → Begins text (include_slices name) ts rest → (before_mark close_brace ts ≡ true) × ReadsAs (item text) (IsInclude name) ts rest
  unfolding spellings item include join_of is_keyword
  include_reads name all ts rest (more s1 a1 (more s2 a2 none)) =
      let named = text_spelled text name name s2 rest (worth name all) a2 in
      let whole = placed_spelled (λ i span. items.Include i.0 i.1 span) (both_spelled (joins s1 (token Text s2 ∷ rest)) named) in
      (refl, record { value = _; spelled = first_spelled {test = begins_include} (own text) refl whole; is = record { place = s2; whole = _; is = refl } })

  keycodes_read : (name : List ℕ) → IsPlain name → (ts rest : List Token) → Begins text (part_slices (codes "xkb_keycodes") name) ts rest → ReadsAs (section text) (IsSection kinds.Keycodes IsInclude (name ∷ [])) ts rest
  unfolding spellings
  keycodes_read name all ts rest begins = each_section_reads IsPlain text keywords.XkbKeycodes kinds.Keycodes keycodes_begun include_slices IsInclude include_reads (codes "xkb_keycodes") (name ∷ []) (all, tt) ts rest begins

  types_read : (name : List ℕ) → IsPlain name → (ts rest : List Token) → Begins text (part_slices (codes "xkb_types") name) ts rest → ReadsAs (section text) (IsSection kinds.Types IsInclude (name ∷ [])) ts rest
  unfolding spellings
  types_read name all ts rest begins = each_section_reads IsPlain text keywords.XkbTypes kinds.Types types_begun include_slices IsInclude include_reads (codes "xkb_types") (name ∷ []) (all, tt) ts rest begins

  compat_reads : (name : List ℕ) → IsPlain name → (ts rest : List Token) → Begins text (part_slices (codes "xkb_compat") name) ts rest → ReadsAs (section text) (IsSection kinds.Compat IsInclude (name ∷ [])) ts rest
  unfolding spellings
  compat_reads name all ts rest begins = each_section_reads IsPlain text keywords.XkbCompat kinds.Compat compat_begun include_slices IsInclude include_reads (codes "xkb_compat") (name ∷ []) (all, tt) ts rest begins

  symbols_read : (name : List ℕ) → IsPlain name → (ts rest : List Token) → Begins text (part_slices (codes "xkb_symbols") name) ts rest → ReadsAs (section text) (IsSection kinds.Symbols IsInclude (name ∷ [])) ts rest
  unfolding spellings
  symbols_read name all ts rest begins = each_section_reads IsPlain text keywords.XkbSymbols kinds.Symbols symbols_begun include_slices IsInclude include_reads (codes "xkb_symbols") (name ∷ []) (all, tt) ts rest begins

-- the one item of a section that includes one text
record OneItem (name : List ℕ) (is : List Item) : Type 0 where
  item : Item
  is_one : is ≡ item ∷ []
  includes : IsInclude name item

one_item : (name : List ℕ) (is : List Item) → AreShown IsInclude (name ∷ []) is → OneItem name is
one_item name [] are = elim are [ ]
one_item name (i ∷ []) (shows_more one shows_none) = record { item = i; is_one = refl; includes = one }
one_item name (i ∷ j ∷ is) (shows_more one are) = elim are [ ]

pub record ReadsMade (text : List ℕ) (c : Components) (tokens : List Token) : Type 0 where
  pub tree : Tree
  pub spelled : Spells text tokens tree
  pub shows : HasFourIncludes c tree

made_tree : (k t m s : List Item) → Tree
made_tree k t m s = record { sections = plain kinds.Keycodes k ∷ plain kinds.Types t ∷ plain kinds.Compat m ∷ plain kinds.Symbols s ∷ [] }

shown : (c : Components) (k t m s : List Item) → OneItem c.keycodes k → OneItem c.types t → OneItem c.compat m → OneItem c.symbols s → HasFourIncludes c (made_tree k t m s)
unfolding made_tree
shown c k t m s one two three four = record {
  keycodes = one.item;
  types = two.item;
  compat = three.item;
  symbols = four.item;
  are = ap₂ (λ k t. made_tree k t m s) one.is_one two.is_one ∙ ap₂ (λ m s. made_tree (one.item ∷ []) (two.item ∷ []) m s) three.is_one four.is_one;
  includes_keycodes = one.includes;
  includes_types = two.includes;
  includes_compat = three.includes;
  includes_symbols = four.includes;
}

module _ (text : List ℕ) (c : Components) (all : PlainParts c) where
  held : (s1 s2 s3 s4 : Span) (ts : List Token)
      → Begins text (part_slices (codes "xkb_keycodes") c.keycodes ++ (part_slices (codes "xkb_types") c.types ++ (part_slices (codes "xkb_compat") c.compat ++ part_slices (codes "xkb_symbols") c.symbols))) ts (token (Mark 125) s3 ∷ token (Mark 59) s4 ∷ [])
      → ReadsMade text c (token (Word (Some keywords.XkbKeymap)) s1 ∷ token (Mark 123) s2 ∷ ts)
  unfolding made_tree
  held s1 s2 s3 s4 ts begins =
      let a = parted (part_slices (codes "xkb_keycodes") c.keycodes) _ begins in
      let b = parted (part_slices (codes "xkb_types") c.types) _ a.second in
      let d = parted (part_slices (codes "xkb_compat") c.compat) _ b.second in
      let keycodes = keycodes_read text c.keycodes all.keycodes _ _ a.first in
      let types = types_read text c.types all.types _ _ b.first in
      let compat = compat_reads text c.compat all.compat _ _ d.first in
      let symbols = symbols_read text c.symbols all.symbols _ _ d.second in
      let nothing_more : Front text [] _ _ = record { spelled = refl } in
      let front =
      one_more text (word_starts _ (codes "xkb_keycodes") a.first) keycodes _ _
      (one_more text (word_starts _ (codes "xkb_types") b.first) types _ _
      (one_more text (word_starts _ (codes "xkb_compat") d.first) compat _ _
      (one_more text (word_starts _ (codes "xkb_symbols") d.second) symbols [] _ nothing_more))) in
      record {
        tree = made_tree keycodes.is.items types.is.items compat.is.items symbols.is.items;
        spelled = source_spelled text _ s1 s2 s3 s4 ts front;
        shows = shown c _ _ _ _ (one_item c.keycodes _ keycodes.is.are) (one_item c.types _ types.is.are) (one_item c.compat _ compat.is.are) (one_item c.symbols _ symbols.is.are);
      }

  pub made_reads : (tokens : List Token) → Begins text (made_slices c) tokens [] → ReadsMade text c tokens
  unfolding spellings
  made_reads tokens (more s1 a1 (more {ts = ts} s2 a2 begins)) =
      let p = parted (part_slices (codes "xkb_keycodes") c.keycodes ++ (part_slices (codes "xkb_types") c.types ++ (part_slices (codes "xkb_compat") c.compat ++ part_slices (codes "xkb_symbols") c.symbols))) closed begins in
      by p.mid p.second p.first
    where
      by : (mid : List Token) → Begins text closed mid []
          → Begins text (part_slices (codes "xkb_keycodes") c.keycodes ++ (part_slices (codes "xkb_types") c.types ++ (part_slices (codes "xkb_compat") c.compat ++ part_slices (codes "xkb_symbols") c.symbols))) ts mid
          → ReadsMade text c (token (Word (Some keywords.XkbKeymap)) s1 ∷ token (Mark 123) s2 ∷ ts)
      by mid (more s3 a3 (more s4 a4 none)) first = held s1 s2 s3 s4 ts first

-- What a printed text is spelled as.
use Rattle.std.proofs.Common.{◌≡◌, ℕ, ◌+◌, ◌≤◌, ◌==◌, Bool, true, false, cond, List, [], ◌∷◌, ◌++◌, Option, Some, codes, length, map, refl, ap, ◌∙◌, subst, arith, is_some, ap₂}
use Rattle.std.proofs.lemmas.Bool.{ne_eqb}
use Rattle.std.specs.Fmt.{decimal}
use Rattle.kx_builder.specs.IndicatorMaps.{ResolvedIndicator}
use Rattle.kx_builder.specs.Resolved.{ResolvedType}
use Rattle.kx_lex.specs.Keywords.{spellings}
use Rattle.kx_lex.specs.Kinds.{before_mark, front, is_keyword, is_text}
use Rattle.kx_lex.specs.Production.{many}
use Rattle.kx_lex.specs.Spelling.{many_front}
use Rattle.kx_lex.specs.Tokens.{close_brace, keyword, open_brace, semicolon, text_name}
use Rattle.kx_lex.specs.declared.keyword.Keyword.{Keyword}
use Rattle.kx_lex.specs.declared.keyword.Keyword.TheVariants as keywords
use Rattle.kx_lex.specs.declared.token.Span.{Span}
use Rattle.kx_lex.specs.declared.token.Token.{Token}
use Rattle.kx_lex.specs.declared.token.TokenKind.TheVariants.{KeyName, Mark, Word}
use Rattle.kx_tree.specs.Sections.{Spells, flag, flag_of, flags, held_sections, item, optional_text, section, source}
use Rattle.kx_tree.specs.declared.tree.Item.{Item}
use Rattle.kx_tree.specs.declared.tree.Item.TheVariants as items
use Rattle.kx_tree.specs.declared.tree.Kind.{Kind}
use Rattle.kx_tree.specs.declared.tree.Kind.TheVariants as kinds
use Rattle.kx_tree.specs.declared.tree.Section.{Section}
use Rattle.kx_tree.specs.declared.tree.Stated.{Stated}
use Rattle.kx_tree.specs.declared.tree.Statement.{Statement}
use Rattle.kx_tree.specs.declared.tree.Tree.{Tree}
use Rattle.kx_basics.specs.declared.limits.TheConstants.{MOST_GROUPS}
use Rattle.roundtrip_text.specs.Slices.{Slice, slice, Begins, none, more}
use Rattle.roundtrip_text.proofs.Texts.{decimal_value}
use Rattle.roundtrip_text.specs.Source.{EachOf, IndicatorFits, KeyFits, NameFits, NamedGroup, NamesFit, PrintedKey, TypeFits, named_from}
use Rattle.roundtrip_text.specs.Indicators.{indicator_statement_slices}
use Rattle.roundtrip_text.specs.ModifierMaps.{MapLine, maps_of_key}
use Rattle.roundtrip_text.specs.Sections.{OfKey, OfMap, OfName, SymbolsLine, compat_slices, keycode_statement_slices, map_lines_printed, section_slices, source_slices, symbols_line_slices, symbols_lines}
use Rattle.roundtrip_text.specs.Spelled.{closed}
use Rattle.roundtrip_text.specs.Types.{type_statement_slices}
use Rattle.roundtrip_text.proofs.ModifierMaps.{MapLineFits, maps_fit}
use Rattle.roundtrip_tree.specs.Indicators.{IsIndicator}
use Rattle.roundtrip_tree.specs.Keys.{IsKey}
use Rattle.roundtrip_tree.specs.Shows.{AreShown, IsItem, IsKeycode, IsModifierMap, IsSpelled, IsStated, ReadsAs, none as shows_none, more as shows_more}
use Rattle.roundtrip_tree.specs.Source.{IsGroupName}
use Rattle.roundtrip_tree.specs.Sources.{ShowsSource, compat_sections, plain, sections_of, stating}
use Rattle.roundtrip_tree.specs.Types.{IsType}
use Rattle.roundtrip_tree.proofs.GroupNames.{name_reads}
use Rattle.roundtrip_tree.proofs.Indicators.{indicator_reads}
use Rattle.roundtrip_tree.proofs.Keys.{key_reads}
use Rattle.roundtrip_tree.proofs.ModifierMaps.{map_reads}
use Rattle.roundtrip_tree.proofs.Rows.{optional_none, parted}
use Rattle.roundtrip_tree.proofs.Sections.{IsSection, keycodes_begun, symbols_begun}
use Rattle.roundtrip_tree.proofs.SourceSections.{compat_begun, each_section_reads, types_begun}
use Rattle.roundtrip_tree.proofs.Spellings.{after_spelled, ended_spelled, keyword_spelled, mark_spelled}
use Rattle.roundtrip_tree.proofs.Statements.{keycode_reads}
use Rattle.roundtrip_tree.proofs.Tokens.{token}
use Rattle.roundtrip_tree.proofs.Types.{type_reads, each-append}

three_parts : (is a b c d : List Stated) → is ≡ a ++ b → b ≡ c ++ d → is ≡ a ++ (c ++ d)
three_parts is a b c d first second = first ∙ ap (λ js. a ++ js) second

same_tree : (ks ts ds : List Stated) {is js : List Stated} → is ≡ js → (let t : Tree = record { sections = sections_of ks ts ds is } in t) ≡ (let t : Tree = record { sections = sections_of ks ts ds js } in t)
same_tree ks ts ds e = ap (λ is. let t : Tree = record { sections = sections_of ks ts ds is } in t) e

-- ---- Items that are statements

pub record AllStated {X : Type 0} (Is : X → Statement → Type 0) (xs : List X) (is : List Item) : Type 0 where
  stateds : List Stated
  are_stated : is ≡ map items.Statement stateds
  are : AreShown (λ x s. IsStated (Is x) s) xs stateds

all_stated : {X : Type 0} (Is : X → Statement → Type 0) (xs : List X) (is : List Item) → AreShown (λ x i. IsItem (Is x) i) xs is → AllStated Is xs is
all_stated Is [] [] shows_none = record { stateds = []; are_stated = refl; are = shows_none }
all_stated Is [] (i ∷ is) are = elim are [ ]
all_stated Is (x ∷ xs) [] are = elim are [ ]
all_stated Is (x ∷ xs) (i ∷ is) (shows_more one are) =
    let rest = all_stated Is xs is are in
    record { stateds = one.stated ∷ rest.stateds; are_stated = ap₂ (λ j js. j ∷ js) one.item_is rest.are_stated; are = shows_more one.is rest.are }

-- a section of statements alone
record IsStating {X : Type 0} (k : Kind) (Is : X → Statement → Type 0) (xs : List X) (s : Section) : Type 0 where
  stateds : List Stated
  is : s ≡ stating k stateds
  are : AreShown (λ x s. IsStated (Is x) s) xs stateds

section_states : {X : Type 0} {k : Kind} (Is : X → Statement → Type 0) (xs : List X) (s : Section) → IsSection k (λ x i. IsItem (Is x) i) xs s → IsStating k Is xs s
section_states {k = k} Is xs s section =
    let all = all_stated Is xs section.items section.are in
    record { stateds = all.stateds; is = section.is ∙ ap (plain k) all.are_stated; are = all.are }

-- ---- Statements of symbols

pub record NamedFits (g : NamedGroup) : Type 0 where
  pub name : NameFits g.name
  pub some_group : 1 ≤ g.group
  pub few : g.group ≤ MOST_GROUPS

abbrev LineFits : SymbolsLine → Type 0
LineFits (OfName g) = NamedFits g
LineFits (OfKey k) = KeyFits k
LineFits (OfMap l) = MapLineFits l

abbrev LineSays : SymbolsLine → Statement → Type 0
LineSays (OfName g) statement = IsGroupName g.group g.name statement
LineSays (OfKey k) statement = IsKey k statement
LineSays (OfMap l) statement = IsModifierMap l.modifier l.name statement

abbrev IsLine : SymbolsLine → Item → Type 0
IsLine x i = IsItem (LineSays x) i

abbrev StatesLine : SymbolsLine → Stated → Type 0
StatesLine x s = IsStated (LineSays x) s

each_map : {X Y : Type 0} (P : Y → Type 0) (f : X → Y) (xs : List X) → EachOf (λ x. P (f x)) xs → EachOf P (map f xs)
each_map P f [] each = tt
each_map P f (x ∷ xs) each = (each.0, each_map P f xs each.1)

named_fit : (n : ℕ) (gs : List (List ℕ)) → EachOf NameFits gs → 1 ≤ n → n + length gs ≤ 33 → EachOf NamedFits (named_from n gs)
named_fit n [] each some few = tt
named_fit n (g ∷ gs) each some few = by (length g == 0) (named_fit (n + 1) gs each.1 (omega (arith, some)) (omega (arith, few)))
  where
    by : (t : Bool) → EachOf NamedFits (named_from (n + 1) gs) → EachOf NamedFits ((cond t [] (let h : NamedGroup = record { group = n; name = g } in h ∷ [])) ++ named_from (n + 1) gs)
    by true rest = rest
    by false rest = (record { name = each.0; some_group = some; few = omega (arith, few) }, rest)

maps_all_fit : (ks : List PrintedKey) → EachOf KeyFits ks → EachOf MapLineFits (map_lines_printed ks)
maps_all_fit [] each = tt
maps_all_fit (k ∷ ks) each = each-append MapLineFits (maps_of_key k) (map_lines_printed ks) (maps_fit k each.0) (maps_all_fit ks each.1)

lines_fit : (gs : List NamedGroup) (ks : List PrintedKey) (ls : List MapLine) → EachOf NamedFits gs → EachOf KeyFits ks → EachOf MapLineFits ls → EachOf LineFits (symbols_lines gs ks ls)
lines_fit gs ks ls a b c = each-append LineFits (map OfName gs) (map OfKey ks ++ map OfMap ls) (each_map LineFits OfName gs a) (each-append LineFits (map OfKey ks) (map OfMap ls) (each_map LineFits OfKey ks b) (each_map LineFits OfMap ls c))

-- items of some things and of others, apart
record PartsShown {X A : Type 0} (Is : X → A → Type 0) (xs ys : List X) (zs : List A) : Type 0 where
  first : List A
  second : List A
  are : zs ≡ first ++ second
  firsts : AreShown Is xs first
  seconds : AreShown Is ys second

parts_shown : {X A : Type 0} (Is : X → A → Type 0) (xs ys : List X) (zs : List A) → AreShown Is (xs ++ ys) zs → PartsShown Is xs ys zs
parts_shown Is [] ys zs are = record { first = []; second = zs; are = refl; firsts = shows_none; seconds = are }
parts_shown Is (x ∷ xs) ys [] are = elim are [ ]
parts_shown Is (x ∷ xs) ys (z ∷ zs) (shows_more one are) = let p = parts_shown Is xs ys zs are in record { first = z ∷ p.first; second = p.second; are = ap (λ r. z ∷ r) p.are; firsts = shows_more one p.firsts; seconds = p.seconds }

mapped_shown : {X Y A : Type 0} (Is : Y → A → Type 0) (f : X → Y) (xs : List X) (zs : List A) → AreShown Is (map f xs) zs → AreShown (λ x. Is (f x)) xs zs
mapped_shown Is f [] [] shows_none = shows_none
mapped_shown Is f [] (z ∷ zs) are = elim are [ ]
mapped_shown Is f (x ∷ xs) [] are = elim are [ ]
mapped_shown Is f (x ∷ xs) (z ∷ zs) (shows_more one are) = shows_more one (mapped_shown Is f xs zs are)

-- a word isn't the mark that ends a section
pub word_starts : {text : List ℕ} (keyword : Option Keyword) (w : List ℕ) {ss : List Slice} {ts rest : List Token} → Begins text (slice (Word keyword) w ∷ ss) ts rest → before_mark close_brace ts ≡ true
word_starts keyword w (more span at begins) = refl

key_name_starts : {text : List ℕ} (w : List ℕ) {ss : List Slice} {ts rest : List Token} → Begins text (slice KeyName w ∷ ss) ts rest → before_mark close_brace ts ≡ true
key_name_starts w (more span at begins) = refl

-- the front of tokens is these sections
pub record Front (text : List ℕ) (ss : List Section) (ts rest : List Token) : Type 0 where
  pub spelled : many_front (before_mark close_brace) (section text).spells ss ts rest

pub one_more : (text : List ℕ) {X : Type 0} {k : Kind} {Is : X → Item → Type 0} {xs : List X} {ts mid : List Token} → before_mark close_brace ts ≡ true → (r : ReadsAs (section text) (IsSection k Is xs) ts mid) → (ss : List Section) (rest : List Token) → Front text ss mid rest → Front text (plain k r.is.items ∷ ss) ts rest
one_more text {k = k} {ts = ts} {mid = mid} starts r ss rest f = record { spelled = (starts, mid, plain_spelled, f.spelled) }
  where
    plain_spelled : (section text).spells ts (plain k r.is.items) mid
    plain_spelled = subst (λ s. (section text).spells ts s mid) r.is.is r.spelled.spelled

-- the same of a section of statements
stated_more : (text : List ℕ) {X : Type 0} {k : Kind} {Is : X → Statement → Type 0} {xs : List X} {ts mid : List Token} → before_mark close_brace ts ≡ true → (r : ReadsAs (section text) (IsSection k (λ x i. IsItem (Is x) i) xs) ts mid) → (ss : List Section) (rest : List Token) → Front text ss mid rest
    → Front text (stating k (section_states Is xs r.value r.is).stateds ∷ ss) ts rest
stated_more text {k = k} {Is = Is} {xs = xs} {ts = ts} {mid = mid} starts r ss rest f = record { spelled = (starts, mid, stated_spelled, f.spelled) }
  where
    stated_spelled : (section text).spells ts (stating k (section_states Is xs r.value r.is).stateds) mid
    stated_spelled = subst (λ s. (section text).spells ts s mid) (section_states Is xs r.value r.is).is r.spelled.spelled

module _ (text : List ℕ) where
  abbrev IsCode : PrintedKey → Item → Type 0
  IsCode k i = IsItem (IsKeycode k.name k.code) i

  abbrev IsKeyType : ResolvedType → Item → Type 0
  IsKeyType t i = IsItem (IsType t) i

  abbrev IsIndicatorMap : ResolvedIndicator → Item → Type 0
  IsIndicatorMap d i = IsItem (IsIndicator d) i

  line_reads : (x : SymbolsLine) → LineFits x → (ts rest : List Token) → Begins text (symbols_line_slices x) ts rest → (before_mark close_brace ts ≡ true) × ReadsAs (item text) (IsLine x) ts rest
  line_reads (OfName g) fits ts rest begins = (word_starts _ (codes "name") begins, name_reads text g fits.name fits.some_group fits.few ts rest begins)
  line_reads (OfKey k) fits ts rest begins = (word_starts _ (codes "key") begins, key_reads text k fits ts rest begins)
  line_reads (OfMap l) fits ts rest begins = (word_starts _ (codes "modifier_map") begins, map_reads text l fits ts rest begins)

  code_reads : (k : PrintedKey) → KeyFits k → (ts rest : List Token) → Begins text (keycode_statement_slices k) ts rest → (before_mark close_brace ts ≡ true) × ReadsAs (item text) (IsCode k) ts rest
  code_reads k fits ts rest begins =
      let small = fits.code in
      let r = keycode_reads text k.name (decimal k.code) k.code ts rest fits.bytes (decimal_value k.code (omega (arith, small))) (omega (arith, small)) begins in
      (key_name_starts _ begins, record { value = r.item; spelled = r.spelled; is = r.is })

  keycodes_read : (ks : List PrintedKey) → EachOf KeyFits ks → (ts rest : List Token) → Begins text (section_slices (codes "xkb_keycodes") keycode_statement_slices ks) ts rest → ReadsAs (section text) (IsSection kinds.Keycodes IsCode ks) ts rest
  unfolding spellings
  keycodes_read ks fit ts rest begins = each_section_reads KeyFits text keywords.XkbKeycodes kinds.Keycodes keycodes_begun keycode_statement_slices IsCode code_reads (codes "xkb_keycodes") ks fit ts rest begins

  types_read : (us : List ResolvedType) → EachOf TypeFits us → (ts rest : List Token) → Begins text (section_slices (codes "xkb_types") type_statement_slices us) ts rest → ReadsAs (section text) (IsSection kinds.Types IsKeyType us) ts rest
  unfolding spellings
  types_read us fit ts rest begins =
      each_section_reads TypeFits text keywords.XkbTypes kinds.Types types_begun type_statement_slices IsKeyType (λ t fits ts rest b. (word_starts _ (codes "type") b, type_reads text t fits ts rest b)) (codes "xkb_types") us fit ts rest begins

  indicators_read : (ds : List ResolvedIndicator) → EachOf IndicatorFits ds → (ts rest : List Token) → Begins text (section_slices (codes "xkb_compat") indicator_statement_slices ds) ts rest → ReadsAs (section text) (IsSection kinds.Compat IsIndicatorMap ds) ts rest
  unfolding spellings
  indicators_read ds fit ts rest begins =
      each_section_reads IndicatorFits text keywords.XkbCompat kinds.Compat compat_begun indicator_statement_slices IsIndicatorMap (λ d fits ts rest b. (word_starts _ (codes "indicator") b, indicator_reads text d fits ts rest b)) (codes "xkb_compat") ds fit ts rest begins

  symbols_read : (xs : List SymbolsLine) → EachOf LineFits xs → (ts rest : List Token) → Begins text (section_slices (codes "xkb_symbols") symbols_line_slices xs) ts rest → ReadsAs (section text) (IsSection kinds.Symbols IsLine xs) ts rest
  unfolding spellings
  symbols_read xs fit ts rest begins = each_section_reads LineFits text keywords.XkbSymbols kinds.Symbols symbols_begun symbols_line_slices IsLine line_reads (codes "xkb_symbols") xs fit ts rest begins

  -- ---- The section of indicators, where there are any

  record CompatReads (ds : List ResolvedIndicator) (ts mid : List Token) : Type 0 where
    stateds : List Stated
    are : AreShown (λ d s. IsStated (IsIndicator d) s) ds stateds
    front : (ss : List Section) (rest : List Token) → Front text ss mid rest → Front text (compat_sections stateds ++ ss) ts rest

  compat_reads : (ds : List ResolvedIndicator) → EachOf IndicatorFits ds → (ts mid : List Token) → Begins text (compat_slices ds) ts mid → CompatReads ds ts mid
  compat_reads [] fit ts mid none = record { stateds = []; are = shows_none; front = λ ss rest f. f }
  compat_reads (d ∷ ds) fit ts mid begins = by states.stateds states.are (stated_more text {Is = IsIndicator} (word_starts _ (codes "xkb_compat") some) r)
    where
      some : Begins text (section_slices (codes "xkb_compat") indicator_statement_slices (d ∷ ds)) ts mid
      some = subst (λ t. Begins text (cond t [] (section_slices (codes "xkb_compat") indicator_statement_slices (d ∷ ds))) ts mid) (ne_eqb (length (d ∷ ds)) 0 (λ e. omega (arith, e))) begins

      r : ReadsAs (section text) (IsSection kinds.Compat IsIndicatorMap (d ∷ ds)) ts mid
      r = indicators_read (d ∷ ds) fit ts mid some

      states : IsStating kinds.Compat IsIndicator (d ∷ ds) r.value
      states = section_states IsIndicator (d ∷ ds) r.value r.is

      by : (stateds : List Stated) → AreShown (λ d s. IsStated (IsIndicator d) s) (d ∷ ds) stateds → ((ss : List Section) (rest : List Token) → Front text ss mid rest → Front text (stating kinds.Compat stateds ∷ ss) ts rest) → CompatReads (d ∷ ds) ts mid
      by [] are more_of = elim are [ ]
      by (s ∷ ss) are more_of = record { stateds = s ∷ ss; are = are; front = more_of }

  -- ---- All of it

  pub record ReadsSource (ks : List PrintedKey) (us : List ResolvedType) (ds : List ResolvedIndicator) (gs : List (List ℕ)) (tokens : List Token) : Type 0 where
    pub tree : Tree
    pub spelled : Spells text tokens tree
    pub shows : ShowsSource ks us ds gs tree

  pub source_spelled : (ss : List Section) (s1 s2 s3 s4 : Span) (us : List Token) → Front text ss us (token (Mark 125) s3 ∷ token (Mark 59) s4 ∷ [])
      → Spells text (token (Word (Some keywords.XkbKeymap)) s1 ∷ token (Mark 123) s2 ∷ us) (record { sections = ss })
  unfolding source flags held_sections optional_text flag_of is_keyword
  source_spelled ss s1 s2 s3 s4 us f =
      let ts : List Token = token (Mark 123) s2 ∷ us in
      let rest : List Token = token (Mark 59) s4 ∷ [] in
      let no_flags : IsSpelled (many (front_is_flag) (flag text)) (token (Word (Some keywords.XkbKeymap)) s1 ∷ ts) [] (token (Word (Some keywords.XkbKeymap)) s1 ∷ ts) = record { spelled = (refl, refl) } in
      let word = keyword_spelled text keywords.XkbKeymap (token (Word (Some keywords.XkbKeymap)) s1) ts refl in
      let sections : IsSpelled (many (before_mark close_brace) (section text)) us ss (token (Mark 125) s3 ∷ rest) = record { spelled = (f.spelled, refl) } in
      let held = after_spelled (mark_spelled text open_brace (token (Mark 123) s2) us refl) (ended_spelled text close_brace (token (Mark 125) s3) rest sections refl) in
      let last = mark_spelled text semicolon (token (Mark 59) s4) [] refl in
      let no_name = optional_none (text_name text) (front_text) ts refl in
      record { spelled = ([], _, no_flags.spelled, (_, _, word.spelled, (_, _, no_name.spelled, (_, _, held.spelled, (_, _, last.spelled, (tt, [], (refl, refl), (refl, refl))))))) }
    where
      front_is_flag : List Token → Bool
      front_is_flag = Rattle.kx_lex.specs.Kinds.front (λ t. is_some (flag_of t))

      front_text : List Token → Bool
      front_text = Rattle.kx_lex.specs.Kinds.front is_text

  module _ (ks : List PrintedKey) (us : List ResolvedType) (ds : List ResolvedIndicator) (gs : List (List ℕ)) (keys_fit : EachOf KeyFits ks) (types_fit : EachOf TypeFits us) (indicators_fit : EachOf IndicatorFits ds) (names_fit : NamesFit gs) where
    abbrev lines : List SymbolsLine
    lines = symbols_lines (named_from 1 gs) ks (map_lines_printed ks)

    all_fit : EachOf LineFits lines
    all_fit = lines_fit (named_from 1 gs) ks (map_lines_printed ks) (named_fit 1 gs names_fit.each (omega arith) (let few = names_fit.few in omega (arith, few))) keys_fit (maps_all_fit ks keys_fit)

    held_reads : (s1 s2 s3 s4 : Span) (ts : List Token)
        → Begins text (section_slices (codes "xkb_keycodes") keycode_statement_slices ks ++ (section_slices (codes "xkb_types") type_statement_slices us ++ (compat_slices ds ++ section_slices (codes "xkb_symbols") symbols_line_slices lines))) ts (token (Mark 125) s3 ∷ token (Mark 59) s4 ∷ [])
        → ReadsSource ks us ds gs (token (Word (Some keywords.XkbKeymap)) s1 ∷ token (Mark 123) s2 ∷ ts)
    held_reads s1 s2 s3 s4 ts begins =
        let stop : List Token = token (Mark 125) s3 ∷ token (Mark 59) s4 ∷ [] in
        let a = parted (section_slices (codes "xkb_keycodes") keycode_statement_slices ks) _ begins in
        let b = parted (section_slices (codes "xkb_types") type_statement_slices us) _ a.second in
        let c = parted (compat_slices ds) (section_slices (codes "xkb_symbols") symbols_line_slices lines) b.second in
        let codes_read = keycodes_read ks keys_fit ts a.mid a.first in
        let types_here = types_read us types_fit a.mid b.mid b.first in
        let indicator_maps = compat_reads ds indicators_fit b.mid c.mid c.first in
        let symbols = symbols_read lines all_fit c.mid stop c.second in
        let nothing_more : Front text [] stop stop = record { spelled = refl } in
        let coded = section_states (λ (k : PrintedKey). IsKeycode k.name k.code) ks codes_read.value codes_read.is in
        let typed = section_states IsType us types_here.value types_here.is in
        let lined = section_states LineSays lines symbols.value symbols.is in
        let front : Front text (sections_of coded.stateds typed.stateds indicator_maps.stateds lined.stateds) ts stop =
        stated_more text (word_starts _ (codes "xkb_keycodes") a.first) codes_read _ stop (stated_more text (word_starts _ (codes "xkb_types") b.first) types_here _ stop (indicator_maps.front _ stop (stated_more text (word_starts _ (codes "xkb_symbols") c.second) symbols [] stop nothing_more))) in
        let named = parts_shown StatesLine (map OfName (named_from 1 gs)) (map OfKey ks ++ map OfMap (map_lines_printed ks)) lined.stateds lined.are in
        let keyed = parts_shown StatesLine (map OfKey ks) (map OfMap (map_lines_printed ks)) named.second named.seconds in
        record {
          tree = record { sections = sections_of coded.stateds typed.stateds indicator_maps.stateds lined.stateds };
          spelled = source_spelled (sections_of coded.stateds typed.stateds indicator_maps.stateds lined.stateds) s1 s2 s3 s4 ts front;
          shows = record {
            keycodes = coded.stateds;
            types = typed.stateds;
            indicators = indicator_maps.stateds;
            names = named.first;
            keys = keyed.first;
            maps = keyed.second;
            keycodes_are = coded.are;
            types_are = typed.are;
            indicators_are = indicator_maps.are;
            names_are = mapped_shown StatesLine OfName (named_from 1 gs) named.first named.firsts;
            keys_are = mapped_shown StatesLine OfKey ks keyed.first keyed.firsts;
            maps_are = mapped_shown StatesLine OfMap (map_lines_printed ks) keyed.second keyed.seconds;
            tree_is = same_tree _ _ _ (three_parts lined.stateds named.first named.second keyed.first keyed.second named.are keyed.are);
          };
        }

    -- a text of these tokens is spelled, and its tree shows what was printed
    pub source_reads : (tokens : List Token) → Begins text (source_slices ks us ds gs) tokens [] → ReadsSource ks us ds gs tokens
    unfolding spellings
    source_reads tokens (more s1 a1 (more {ts = ts} s2 a2 begins)) =
        let p = parted (section_slices (codes "xkb_keycodes") keycode_statement_slices ks ++ (section_slices (codes "xkb_types") type_statement_slices us ++ (compat_slices ds ++ section_slices (codes "xkb_symbols") symbols_line_slices lines))) closed begins in
        by p.mid p.second p.first
      where
        by : {ts : List Token} {s1 s2 : Span} (mid : List Token) → Begins text closed mid []
            → Begins text (section_slices (codes "xkb_keycodes") keycode_statement_slices ks ++ (section_slices (codes "xkb_types") type_statement_slices us ++ (compat_slices ds ++ section_slices (codes "xkb_symbols") symbols_line_slices lines))) ts mid
            → ReadsSource ks us ds gs (token (Word (Some keywords.XkbKeymap)) s1 ∷ token (Mark 123) s2 ∷ ts)
        by {ts} {s1} {s2} mid (more s3 a3 (more s4 a4 none)) first = held_reads s1 s2 s3 s4 ts first

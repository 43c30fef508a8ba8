-- A printed key statement has no faults.
use Rattle.std.proofs.Common.{◌≡◌, ℕ, ◌+◌, ◌<◌, ◌≤◌, Bool, true, false, cond, List, [], ◌∷◌, ◌++◌, length, map, codes, Option, None, Some, is_some, refl, ap, ap₂, ◌∙◌, arith}
use Rattle.std.proofs.lemmas.Bool.{le-ltb}
use Rattle.std.proofs.lemmas.List.{length-map}
use Rattle.std.specs.List.{flat_map}
use Rattle.ks_core.specs.Table.{KeysymTable}
use Rattle.ks_core.specs.Name.{is_word}
use Rattle.kx_basics.specs.Keysyms.{IsKeysym}
use Rattle.kx_basics.specs.declared.limits.TheConstants.{GREATEST_KEYSYM, MOST_KEYSYMS, MOST_NAME_BYTES}
use Rattle.kx_builder.specs.Resolved.{ResolvedCell}
use Rattle.kx_include.specs.IncludeFaults.{at}
use Rattle.kx_lex.specs.Kinds.{number_value}
use Rattle.kx_lex.specs.declared.fault.Fault.{Fault}
use Rattle.kx_lex.specs.declared.fault.Fault.TheVariants.{BadValue, TooMany}
use Rattle.kx_lex.specs.declared.token.Span.{Span}
use Rattle.kx_key_lists.specs.Lists.{Lists, has_list}
use Rattle.kx_key_lists.specs.Places.{place_faults, second_faults}
use Rattle.kx_tree.specs.declared.tree.BracePart.{BracePart}
use Rattle.kx_tree.specs.declared.tree.Element.{Element}
use Rattle.kx_tree.specs.declared.tree.Index.{Index}
use Rattle.kx_tree.specs.declared.tree.Stated.{Stated}
use Rattle.kx_tree.specs.declared.tree.KeyField.{KeyField}
use Rattle.kx_tree.specs.declared.tree.List.{List as Listed}
use Rattle.kx_tree.specs.declared.tree.Setting.TheVariants.{To}
use Rattle.kx_tree.specs.declared.tree.Symbol.{Symbol}
use Rattle.kx_tree.specs.declared.tree.Value.TheVariants as values
use Rattle.kx_print.specs.Printed.{keysym_text}
use Rattle.kx_key_fields.specs.KeyFields.{key_field_faults, setting_faults}
use Rattle.kx_symbols.specs.Actions.{actions_of}
use Rattle.kx_symbols.specs.KeyFaults.{symbol_faults, part_faults, element_faults, field_faults, fields_faults, stated_faults}
use Rattle.kx_symbols.specs.Keysyms.{levels_of}
use Rattle.kx_symbols.specs.Known.{Known}
use Rattle.kx_symbols.specs.Lists.{StatementLists, field_lists, no_lists}
use Rattle.kx_tables.specs.Sound.{RangeHolds}
use Rattle.kx_tables.specs.declared.rows.Range.{Range}
use Rattle.kx_tables.specs.declared.rows.Range.TheVariants.{Wrap, Clamp, Redirect}
use Rattle.kx_merge.specs.ByGroup.{at_group}
use Rattle.roundtrip_text.specs.Source.{EachOf, PrintedGroup, PrintedKey, CellFits, GroupFits, KeyFits}
use Rattle.roundtrip_text.specs.KeyPhrases.{Worded, Numbered, group_phrases}
use Rattle.roundtrip_text.specs.Keys.{keysym_phrase, level_phrases, call_of, group_phrase, range_phrases}
use Rattle.roundtrip_text.proofs.Keysyms.{number_stands_for}
use Rattle.roundtrip_tree.specs.Keys.{IsKeysymOf, IsPartOf, IsLevelOf, IsFieldOf, IsIndexedField, IsListOf, IsTextOf, IsActionOf, IsKey, indexed_place, plain_place}
use Rattle.roundtrip_tree.proofs.Statements.{stated_as}
use Rattle.roundtrip_tree.specs.Shows.{AreShown, IsStated, none, more}
use Rattle.roundtrip_meaning.proofs.Actions.{known_by, actions_faultless}
use Rattle.roundtrip_meaning.proofs.KeyShown.{field_of, indexed_is, bare_is, numbered_is, number_expression, group_is, group_faultless}
use Rattle.roundtrip_meaning.proofs.Pushed.{list_pushed, length-push}

-- ---- Keysyms

module _ (file : ℕ) where
  keysym_faultless : (keysym : ℕ) → IsKeysym keysym → (s : Symbol) → IsKeysymOf (keysym_phrase keysym) s → symbol_faults file s ≡ []
  keysym_faultless keysym h s = by (is_word (keysym_text keysym)) refl
    where
      by : (w : Bool) → is_word (keysym_text keysym) ≡ w → IsKeysymOf (cond w (Worded (keysym_text keysym)) (Numbered (keysym_text keysym))) s → symbol_faults file s ≡ []
      by true word is = ap (symbol_faults file) is.1
      by false number is =
          ap (symbol_faults file) is.1
          ∙ ap (λ t. let fs : List Fault = cond t (BadValue (at file is.0) ∷ []) [] in fs) (le-ltb GREATEST_KEYSYM (number_value (keysym_text keysym)) (number_stands_for keysym h number).most)

  parts_faultless : (keysyms : List ℕ) → EachOf IsKeysym keysyms → (ps : List BracePart) → AreShown IsPartOf (map keysym_phrase keysyms) ps → flat_map (part_faults file) ps ≡ []
  parts_faultless [] all [] none = refl
  parts_faultless [] all (p ∷ ps) are = elim are [ ]
  parts_faultless (k ∷ ks) all [] are = elim are [ ]
  parts_faultless (k ∷ ks) all (p ∷ ps) (more one are) = ap₂ (λ (a : List Fault) b. a ++ b) (ap (part_faults file) one.1 ∙ keysym_faultless k all.0 one.0 one.2) (parts_faultless ks all.1 ps are)

  shown_length : {X A : Type 0} {Is : X → A → Type 0} (xs : List X) (bs : List A) → AreShown Is xs bs → length bs ≡ length xs
  shown_length [] [] none = refl
  shown_length [] (b ∷ bs) are = elim are [ ]
  shown_length (x ∷ xs) [] are = elim are [ ]
  shown_length (x ∷ xs) (b ∷ bs) (more one are) = let rest = shown_length xs bs are in omega (arith, rest)

  module _ (whole : Span) where
    level_faultless : (keysyms : List ℕ) → length keysyms ≤ MOST_KEYSYMS → EachOf IsKeysym keysyms → (e : Element) → IsLevelOf (map keysym_phrase keysyms) e → element_faults file whole e ≡ []
    level_faultless [] few all e is = ap (element_faults file whole) is.1
    level_faultless (k ∷ []) few all e is = ap (element_faults file whole) is.1 ∙ keysym_faultless k all.0 is.0 is.2
    level_faultless (k ∷ l ∷ ks) few all e is =
        let size : length is.0.parts ≡ length (k ∷ l ∷ ks) = shown_length (map keysym_phrase (k ∷ l ∷ ks)) is.0.parts is.2 ∙ length-map (k ∷ l ∷ ks) keysym_phrase in
        ap (element_faults file whole) is.1
        ∙ ap₂ (λ (t : Bool) b. let fs : List Fault = cond t (TooMany (at file whole) ∷ []) [] ++ b in fs) (le-ltb MOST_KEYSYMS (length is.0.parts) (omega (arith, few, size))) (parts_faultless (k ∷ l ∷ ks) all is.0.parts is.2)

    levels_faultless : (cells : List ResolvedCell) → EachOf CellFits cells → (es : List Element) → AreShown IsLevelOf (map level_phrases cells) es → flat_map (element_faults file whole) es ≡ []
    levels_faultless [] all [] none = refl
    levels_faultless [] all (e ∷ es) are = elim are [ ]
    levels_faultless (d ∷ ds) all [] are = elim are [ ]
    levels_faultless (d ∷ ds) all (e ∷ es) (more one are) = ap₂ (λ (a : List Fault) b. a ++ b) (level_faultless d.syms all.0.few all.0.keysyms e one) (levels_faultless ds all.1 es are)

-- ---- Places

past_end : {X : Type 0} (xs : List (Option X)) → at_group xs (length xs) ≡ None
past_end [] = refl
past_end (x ∷ xs) = past_end xs

no_list : {X : Type 0} (lists : Lists X) (n : ℕ) → n ≡ length lists → has_list lists n ≡ false
no_list lists n size = ap (λ i. is_some (at_group lists i)) size ∙ ap is_some (past_end lists)

place_faultless : {X : Type 0} (file : ℕ) (lists : Lists X) (n : ℕ) (span whole index : Span) (list : Listed) → n < 32 → n ≡ length lists
    → place_faults file lists (Some (record { value = number_expression (n + 1) span whole; span = index })) list ≡ []
place_faultless file lists n span whole index list small size =
    ap₂ (λ (a : List Fault) g. a ++ second_faults file lists list g) (group_faultless file n span whole small) (group_is n span whole small)
    ∙ ap (λ t. let fs : List Fault = cond t (BadValue (at file list.span) ∷ []) [] in fs) (no_list lists n size)

-- ---- Lists

module _ (file : ℕ) (names : KeysymTable) (modifiers : List (List ℕ)) (whole : Span) where
  abbrev known : Known
  known = known_by names modifiers

  -- what a field leaves that gives no fault
  record Leaves (s t : StatementLists) (f : KeyField) : Type 0 where
    faultless : field_faults file modifiers whole s f ≡ []
    lists_are : field_lists known s f ≡ t

  left : (s t : StatementLists) (f : KeyField) (fs : List KeyField) → Leaves s t f → fields_faults file known whole t fs ≡ [] → fields_faults file known whole s (f ∷ fs) ≡ []
  left s t f fs one rest = ap₂ (λ (a : List Fault) u. a ++ fields_faults file known whole u fs) one.faultless one.lists_are ∙ rest

  type_leaves : (s : StatementLists) (n : ℕ) (name : List ℕ) (f : KeyField) → IsIndexedField (codes "type") n (IsTextOf name) f → Leaves s s f
  type_leaves s n name f is = record { faultless = ap (field_faults file modifiers whole s) (indexed_is is); lists_are = ap (field_lists known s) (indexed_is is) }

  range_leaves : (range : Range) (s : StatementLists) (fs : List KeyField) → AreShown IsFieldOf (range_phrases range) fs → fields_faults file known whole s fs ≡ []
  range_leaves Wrap s fs none = refl
  range_leaves Clamp s fs (more {a = f} is none) = left s s f [] (record { faultless = ap (field_faults file modifiers whole s) (bare_is is); lists_are = ap (field_lists known s) (bare_is is) }) refl
  range_leaves (Redirect group) s fs (more {a = f} is none) = left s s f [] (record { faultless = ap (field_faults file modifiers whole s) (numbered_is is); lists_are = ap (field_lists known s) (numbered_is is) }) refl

  abbrev with_symbols : StatementLists → Listed → StatementLists
  with_symbols s list = record { symbols = s.symbols ++ Some (levels_of names list) ∷ []; actions = s.actions }

  abbrev with_actions : StatementLists → Listed → StatementLists
  with_actions s list = record { symbols = s.symbols; actions = s.actions ++ Some (actions_of known list) ∷ [] }

  symbols_leave : (s : StatementLists) (n : ℕ) (cells : List ResolvedCell) (f : KeyField) → n < 32 → n ≡ length s.symbols → EachOf CellFits cells → (is : IsIndexedField (codes "symbols") (n + 1) (IsListOf IsLevelOf (map level_phrases cells)) f) → Leaves s (with_symbols s is.value_is.0) f
  symbols_leave s n cells f small size fit is =
      let index : Index = record { value = number_expression (n + 1) is.number_span is.expression_span; span = is.index_span } in
      let list = is.value_is.0 in
      let shown : f ≡ field_of (indexed_place (codes "symbols") (n + 1) is.word_span is.number_span is.expression_span is.index_span) (To (values.List list)) is.field.span = indexed_is is ∙ ap (λ v. field_of (indexed_place (codes "symbols") (n + 1) is.word_span is.number_span is.expression_span is.index_span) (To v) is.field.span) is.value_is.1 in
      record {
        faultless = ap (field_faults file modifiers whole s) shown
            ∙ ap₂ (λ (a b : List Fault). a ++ b) (place_faultless file s.symbols n is.number_span is.expression_span is.index_span list small size) (levels_faultless file whole cells fit list.elements is.value_is.2);
        lists_are = ap (field_lists known s) shown
            ∙ (λ i. record { symbols = list_pushed s.symbols index n (levels_of names list) (group_is n is.number_span is.expression_span small) size i; actions = s.actions });
      }

  actions_leave : (s : StatementLists) (n : ℕ) (cells : List ResolvedCell) (f : KeyField) → n < 32 → n ≡ length s.actions → EachOf CellFits cells → (is : IsIndexedField (codes "actions") (n + 1) (IsListOf IsActionOf (map call_of cells)) f) → Leaves s (with_actions s is.value_is.0) f
  actions_leave s n cells f small size fit is =
      let index : Index = record { value = number_expression (n + 1) is.number_span is.expression_span; span = is.index_span } in
      let list = is.value_is.0 in
      let shown : f ≡ field_of (indexed_place (codes "actions") (n + 1) is.word_span is.number_span is.expression_span is.index_span) (To (values.List list)) is.field.span = indexed_is is ∙ ap (λ v. field_of (indexed_place (codes "actions") (n + 1) is.word_span is.number_span is.expression_span is.index_span) (To v) is.field.span) is.value_is.1 in
      record {
        faultless = ap (field_faults file modifiers whole s) shown
            ∙ ap₂ (λ (a b : List Fault). a ++ b) (place_faultless file s.actions n is.number_span is.expression_span is.index_span list small size) (actions_faultless file modifiers cells fit list.elements is.value_is.2);
        lists_are = ap (field_lists known s) shown
            ∙ (λ i. record { symbols = s.symbols; actions = list_pushed s.actions index n (actions_of known list) (group_is n is.number_span is.expression_span small) size i });
      }

  lists_faultless : (n : ℕ) (gs : List PrintedGroup) (range : Range) (s : StatementLists) (fs : List KeyField) → n + length gs ≤ 32 → EachOf GroupFits gs → n ≡ length s.symbols → n ≡ length s.actions
      → AreShown IsFieldOf (group_phrases (n + 1) (map group_phrase gs) ++ range_phrases range) fs → fields_faults file known whole s fs ≡ []
  lists_faultless n [] range s fs few fit a b are = range_leaves range s fs are
  lists_faultless n (g ∷ gs) range s fs few fit a b (more {a = t} it (more {a = y} iy (more {a = z} {bs = rest} iz are))) =
      let small : n < 32 = omega (arith, few) in
      let s1 = with_symbols s iy.value_is.0 in
      let s2 = with_actions s1 iz.value_is.0 in
      let more_symbols = length-push s.symbols (Some (levels_of names iy.value_is.0)) in
      let more_actions = length-push s.actions (Some (actions_of known iz.value_is.0)) in
      left s s t (y ∷ z ∷ rest) (type_leaves s (n + 1) g.type_name t it)
      (left s s1 y (z ∷ rest) (symbols_leave s n g.cells y small a fit.0.cells iy)
      (left s1 s2 z rest (actions_leave s1 n g.cells z small b fit.0.cells iz)
      (lists_faultless (n + 1) gs range s2 rest (omega (arith, few)) fit.1 (omega (arith, a, more_symbols)) (omega (arith, b, more_actions)) are)))

-- ---- Settings

module _ (file : ℕ) (modifiers : List (List ℕ)) where
  type_setting_faultless : (n : ℕ) (name : List ℕ) (f : KeyField) → n < 32 → IsIndexedField (codes "type") (n + 1) (IsTextOf name) f → key_field_faults file modifiers f ≡ []
  type_setting_faultless n name f small is =
      ap (key_field_faults file modifiers) (indexed_is is ∙ ap (λ v. field_of (indexed_place (codes "type") (n + 1) is.word_span is.number_span is.expression_span is.index_span) (To v) is.field.span) is.value_is.2)
      ∙ ap (λ (a : List Fault). a ++ []) (group_faultless file n is.number_span is.expression_span small)

  range_settings_faultless : (range : Range) (fs : List KeyField) → RangeHolds range → AreShown IsFieldOf (range_phrases range) fs → setting_faults file modifiers fs ≡ []
  range_settings_faultless Wrap fs h none = refl
  range_settings_faultless Clamp fs h (more is none) = ap (λ f. key_field_faults file modifiers f ++ []) (bare_is is)
  range_settings_faultless (Redirect group) fs h (more is none) =
      ap (λ f. key_field_faults file modifiers f ++ []) (numbered_is is ∙ ap (λ e. field_of (plain_place (codes "groupsRedirect") is.word_span) (To (values.Expression e)) is.field.span) is.value_is.2)
      ∙ ap (λ (a : List Fault). a ++ []) (group_faultless file group is.value_is.0 is.value_is.1 (omega (arith, h)))

  settings_faultless : (n : ℕ) (gs : List PrintedGroup) (range : Range) (fs : List KeyField) → n + length gs ≤ 32 → RangeHolds range → AreShown IsFieldOf (group_phrases (n + 1) (map group_phrase gs) ++ range_phrases range) fs → setting_faults file modifiers fs ≡ []
  settings_faultless n [] range fs few h are = range_settings_faultless range fs h are
  settings_faultless n (g ∷ gs) range fs few h (more it (more iy (more {bs = rest} iz are))) =
      ap₂ (λ (a b : List Fault). a ++ b) (type_setting_faultless n g.type_name _ (omega (arith, few)) it)
      (ap₂ (λ (a b : List Fault). a ++ b) (ap (key_field_faults file modifiers) (indexed_is iy))
      (ap₂ (λ (a b : List Fault). a ++ b) (ap (key_field_faults file modifiers) (indexed_is iz)) (settings_faultless (n + 1) gs range rest (omega (arith, few)) h are)))

-- ---- A statement

pub key_faultless : (file : ℕ) (names : KeysymTable) (modifiers : List (List ℕ)) (k : PrintedKey) (i : Stated) → KeyFits k → IsStated (IsKey k) i → stated_faults file (known_by names modifiers) i ≡ []
key_faultless file names modifiers k i fits is =
    let fs = is.shows.fields in
    let most = fits.few in
    let few : 0 + length k.groups ≤ 32 = omega (arith, most) in
    ap (stated_faults file (known_by names modifiers)) (stated_as i is _ is.shows.is)
    ∙ ap₂ (λ (a b : List Fault). a ++ b)
    (ap (λ t. let faults : List Fault = cond t (TooMany (at file i.span) ∷ []) [] in faults) (le-ltb MOST_NAME_BYTES (length k.name) fits.name_fits))
    (ap₂ (λ (a b : List Fault). a ++ b)
    (lists_faultless file names modifiers i.span 0 k.groups k.range no_lists fs few fits.groups refl refl is.shows.are)
    (settings_faultless file modifiers 0 k.groups k.range fs few fits.range is.shows.are))

-- What the keys of a printed symbols section are given.
use Rattle.std.proofs.Common.{◌≡◌, ℕ, max, nat_eq, true, List, [], ◌∷◌, ◌++◌, length, map, slice_get, unwrap_or, Option, None, Some, refl, sym, ap, ap₂, ◌∙◌, arith, subst, append-nil}
use Rattle.std.proofs.lemmas.List.{length-map}
use Rattle.std.proofs.lemmas.Option.{slice_get-map}
use Rattle.std.specs.List.{list_all}
use Rattle.std.specs.Option.{option_and_then, option_map, option_map_or}
use Rattle.ks_core.specs.Table.{KeysymTable}
use Rattle.ks_core.specs.Lines.{is_sound}
use Rattle.kx_actions.specs.declared.action.KeyAction.{KeyAction}
use Rattle.kx_builder.specs.Resolved.{ResolvedCell}
use Rattle.kx_codes.specs.Codes.{Codes, code_of}
use Rattle.kx_include.specs.Expansion.{Body, Begin, End}
use Rattle.kx_include.specs.declared.place.Place.{Place}
use Rattle.kx_key_lists.specs.Lists.{level_in, width_in}
use Rattle.kx_merge.specs.Bodies.{offers_of, faults_of}
use Rattle.kx_merge.specs.Offers.{Offer, value_of, width_of}
use Rattle.kx_tree.specs.declared.tree.Stated.{Stated}
use Rattle.kx_tree.specs.declared.tree.KeyField.{KeyField}
use Rattle.kx_key_fields.specs.declared.cells.AttributeCell.TheVariants as settings
use Rattle.kx_key_fields.specs.declared.cells.AttributeValue.{AttributeValue}
use Rattle.kx_symbols.specs.Actions.{defined}
use Rattle.kx_symbols.specs.Keys.{key_rules, key_moves, given_cell, given_width}
use Rattle.kx_symbols.specs.Keysyms.{Level, given}
use Rattle.kx_symbols.specs.Known.{Known}
use Rattle.kx_symbols.specs.Lists.{StatementLists, lists_of}
use Rattle.kx_symbols.specs.declared.cells.Cell.{Cell}
use Rattle.kx_symbols.specs.declared.cells.Cell.TheVariants as cells
use Rattle.kx_symbols.specs.declared.cells.CellValue.{CellValue}
use Rattle.kx_symbols.specs.declared.cells.CellValue.TheVariants as values
use Rattle.kx_tables.specs.declared.rows.Range.{Range}
use Rattle.kx_tables.specs.declared.rows.Range.TheVariants.{Wrap}
use Rattle.kx_keys.specs.Given.{given_by, keysyms_of, action_of, name_of, range_of}
use Rattle.kx_merge.specs.ByGroup.{at_group}
use Rattle.roundtrip_meaning.specs.Bodies.{own_body}
use Rattle.roundtrip_text.specs.Source.{EachOf, AreRising, PrintedGroup, PrintedKey, KeyFits}
use Rattle.roundtrip_text.specs.KeyPhrases.{field_phrases}
use Rattle.roundtrip_text.specs.Keys.{key_phrase}
use Rattle.roundtrip_tree.specs.Keys.{IsFieldOf, IsKey}
use Rattle.roundtrip_tree.specs.Shows.{AreShown, IsStated, none, more}
use Rattle.roundtrip_tree.specs.Source.{IsNameStated, IsMapStated}
use Rattle.roundtrip_meaning.specs.Given.{key_action, IsGiven}
use Rattle.roundtrip_meaning.specs.Groups.{GroupLists}
use Rattle.roundtrip_meaning.proofs.Actions.{known_by}
use Rattle.roundtrip_meaning.proofs.Groups.{lists_are}
use Rattle.roundtrip_meaning.proofs.KeyLists.{level_lists, are_groups}
use Rattle.roundtrip_meaning.proofs.KeyOffers.{IsOffered, HasOffer, each_offered}
use Rattle.roundtrip_meaning.proofs.KeyAttributes.{type_is, range_is, range_said}
use Rattle.roundtrip_meaning.proofs.KeyStatements.{offers_shown, symbols_offer, symbols_faultless}
use Rattle.roundtrip_meaning.proofs.Pushed.{level_of, width_of as width_listed}

-- ---- The lists of a key, group by group

-- the lists of its groups, of one kind
module _ {X : Type 0} (at : ResolvedCell → Option X) where
  abbrev rows : List PrintedGroup → List (List (Option X))
  rows gs = map (λ (g : PrintedGroup). map at g.cells) gs

  rows_width : (gs : List PrintedGroup) (group : ℕ) → width_in (map Some (rows gs)) group ≡ option_map_or (λ (p : PrintedGroup). length p.cells) (slice_get gs group) 0
  rows_width gs group = width_listed (rows gs) group ∙ ap (λ o. option_map_or length o 0) (slice_get-map (λ (g : PrintedGroup). map at g.cells) gs group) ∙ by (slice_get gs group)
    where
      by : (o : Option PrintedGroup) → option_map_or length (option_map (λ (g : PrintedGroup). map at g.cells) o) 0 ≡ option_map_or (λ (p : PrintedGroup). length p.cells) o 0
      by None = refl
      by (Some g) = length-map g.cells at

  rows_level : (gs : List PrintedGroup) (group level : ℕ) (d : ResolvedCell) → option_and_then (λ (g : PrintedGroup). slice_get g.cells level) (slice_get gs group) ≡ Some d → level_in (map Some (rows gs)) group level ≡ at d
  rows_level gs group level d found = level_of (rows gs) group level ∙ ap (λ o. option_and_then (λ levels. at_group levels level) o) (slice_get-map (λ (g : PrintedGroup). map at g.cells) gs group) ∙ by (slice_get gs group) found
    where
      in_group : (o : Option ResolvedCell) → o ≡ Some d → option_and_then (λ (v : Option X). v) (option_map at o) ≡ at d
      in_group None e = cc
      in_group (Some c) e = ap (λ o. option_and_then (λ (v : Option X). v) (option_map at o)) e

      by : (o : Option PrintedGroup) → option_and_then (λ (g : PrintedGroup). slice_get g.cells level) o ≡ Some d → option_and_then (λ levels. at_group levels level) (option_map (λ (g : PrintedGroup). map at g.cells) o) ≡ at d
      by None e = cc
      by (Some g) e = ap (λ o. option_and_then (λ (v : Option X). v) o) (slice_get-map at g.cells level) ∙ in_group (slice_get g.cells level) e

map_map : {A B C : Type 0} (f : A → B) (g : B → C) (xs : List A) → map g (map f xs) ≡ map (λ x. g (f x)) xs
map_map f g [] = refl
map_map f g (x ∷ xs) = ap (λ ys. g (f x) ∷ ys) (map_map f g xs)

abbrev keysyms_at : ResolvedCell → Level
keysyms_at d = given d.syms

abbrev action_at : ResolvedCell → Option KeyAction
action_at d = defined (key_action d.action)

module _ (names : KeysymTable) (modifiers : List (List ℕ)) (table : list_all is_sound names.names ≡ true) (k : PrintedKey) (fits : KeyFits k) (fs : List KeyField) (are : AreShown IsFieldOf (field_phrases (key_phrase k)) fs) where
  abbrev known : Known
  known = known_by names modifiers

  lists_given : lists_of known fs ≡ (let t : StatementLists = record { symbols = map Some (rows keysyms_at k.groups); actions = map Some (rows action_at k.groups) } in t)
  lists_given = lists_are known (map level_lists k.groups) fs (are_groups names modifiers table k fits fs are)
      ∙ (λ i. record { symbols = map Some (map_map level_lists (λ (g : GroupLists). g.symbols) k.groups i); actions = map Some (map_map level_lists (λ (g : GroupLists). g.actions) k.groups i) })

  keysyms_kept : (syms : List ℕ) → unwrap_or (keysyms_of (option_map values.Keysyms (given syms))) [] ≡ syms
  keysyms_kept [] = refl
  keysyms_kept (s ∷ ss) = refl

  action_kept : (o : Option KeyAction) → action_of (option_map values.Action o) ≡ o
  action_kept None = refl
  action_kept (Some a) = refl

  range_kept : (range : Range) → unwrap_or (range_of (option_map values.Setting (range_said modifiers range))) Wrap ≡ range
  range_kept Wrap = refl
  range_kept _ = refl

  -- what one statement gives its key
  pub statement_gives : IsGiven k (given_by (given_cell known fs) (given_width known fs))
  statement_gives = record {
    width_is = λ group. ap (λ (s : StatementLists). max (width_in s.symbols group) (width_in s.actions group)) lists_given
        ∙ ap₂ max (rows_width keysyms_at k.groups group) (rows_width action_at k.groups group) ∙ same_max (option_map_or (λ (p : PrintedGroup). length p.cells) (slice_get k.groups group) 0);
    keysyms_are = λ group level d found. ap (λ (s : StatementLists). unwrap_or (keysyms_of (option_map values.Keysyms (level_in s.symbols group level))) []) lists_given
        ∙ ap (λ o. unwrap_or (keysyms_of (option_map values.Keysyms o)) []) (rows_level keysyms_at k.groups group level d found) ∙ keysyms_kept d.syms;
    action_is = λ group level d found. ap (λ (s : StatementLists). action_of (option_map values.Action (level_in s.actions group level))) lists_given
        ∙ ap (λ o. action_of (option_map values.Action o)) (rows_level action_at k.groups group level d found) ∙ action_kept (action_at d);
    type_is = λ group p found. ap (λ (o : Option AttributeValue). name_of (option_map values.Setting o)) (type_is modifiers k fits fs are group p found);
    range_is = ap (λ (o : Option AttributeValue). unwrap_or (range_of (option_map values.Setting o)) Wrap) (range_is modifiers k fits fs are) ∙ range_kept k.range;
  }
    where
      same_max : (n : ℕ) → max n n ≡ n
      same_max n = omega arith

-- the same given in other words
given_same : (k : PrintedKey) (v u : Cell → Option CellValue) (w x : ℕ → ℕ) → ((c : Cell) → v c ≡ u c) → ((g : ℕ) → w g ≡ x g) → IsGiven k (given_by u x) → IsGiven k (given_by v w)
given_same k v u w x values_are widths_are is = record {
  width_is = λ group. widths_are group ∙ is.width_is group;
  keysyms_are = λ group level d found. ap (λ o. unwrap_or (keysyms_of o) []) (values_are (cells.Keysyms group level)) ∙ is.keysyms_are group level d found;
  action_is = λ group level d found. ap action_of (values_are (cells.Action group level)) ∙ is.action_is group level d found;
  type_is = λ group p found. ap name_of (values_are (cells.Setting (settings.GroupType group))) ∙ is.type_is group p found;
  range_is = ap (λ o. unwrap_or (range_of o) Wrap) (values_are (cells.Setting settings.Range)) ∙ is.range_is;
}

module _ (codes : Codes) (names : KeysymTable) (modifiers : List (List ℕ)) (place : Place) (table : list_all is_sound names.names ≡ true) where
  abbrev Gives : PrintedKey → Offer ℕ Cell CellValue → Type 0
  Gives k o = IsGiven k (given_by o.value o.width)

  all_offered : (ks : List PrintedKey) (is : List Stated) (are : AreShown (λ (k : PrintedKey) i. IsStated (IsKey k) i) ks is) → EachOf KeyFits ks → AreShown (IsOffered (λ (k : PrintedKey). k.code) Gives) ks (offers_shown codes names modifiers place ks is are)
  all_offered [] [] none fit = none
  all_offered [] (i ∷ is) are fit = elim are [ ]
  all_offered (k ∷ ks) [] are fit = elim are [ ]
  all_offered (k ∷ ks) (i ∷ is) (more one are) fit = more (record { mode_is = refl; name_is = refl; says = statement_gives names modifiers table k fit.0 one.shows.fields one.shows.are }) (all_offered ks is are fit.1)

  each_given : (os : List (Offer ℕ Cell CellValue)) (ks : List PrintedKey) → EachOf (HasOffer (λ (k : PrintedKey). k.code) Gives os) ks → EachOf (λ (k : PrintedKey). IsGiven k (given_by (value_of nat_eq os k.code) (width_of nat_eq os k.code))) ks
  each_given os [] all = tt
  each_given os (k ∷ ks) all = (given_same k (value_of nat_eq os k.code) all.0.offer.value (width_of nat_eq os k.code) all.0.offer.width all.0.value_is all.0.width_is all.0.says, each_given os ks all.1)

  module _ (ks : List PrintedKey) (nis kis mis : List Stated) (named : EachOf IsNameStated nis) (keys : AreShown (λ (k : PrintedKey) i. IsStated (IsKey k) i) ks kis) (maps : EachOf IsMapStated mis)
      (fit : EachOf KeyFits ks) (rising : AreRising (λ (k : PrintedKey). k.code) 0 ks) (coded : EachOf (λ (k : PrintedKey). code_of codes k.name ≡ Some k.code) ks) where
    abbrev symbols : Body
    symbols = Begin (own_body place (nis ++ (kis ++ mis)) End)

    abbrev key_os : List (Offer ℕ Cell CellValue)
    key_os = offers_of nat_eq (key_rules codes names modifiers) key_moves symbols

    -- each key is given what is printed of it
    pub keys_given : EachOf (λ (k : PrintedKey). IsGiven k (given_by (value_of nat_eq key_os k.code) (width_of nat_eq key_os k.code))) ks
    keys_given =
        subst (λ os. EachOf (λ (k : PrintedKey). IsGiven k (given_by (value_of nat_eq os k.code) (width_of nat_eq os k.code))) ks)
        (sym (symbols_offer codes names modifiers place ks nis kis mis named keys maps coded ∙ append-nil (offers_shown codes names modifiers place ks kis keys)))
        (each_given (offers_shown codes names modifiers place ks kis keys) ks (each_offered (λ (k : PrintedKey). k.code) Gives 0 ks (offers_shown codes names modifiers place ks kis keys) rising (all_offered ks kis keys fit)))

    pub keys_faultless : faults_of nat_eq (key_rules codes names modifiers) key_moves symbols ≡ []
    keys_faultless = symbols_faultless codes names modifiers place ks nis kis mis named keys maps fit

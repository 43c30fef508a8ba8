-- A printed text means the tables that were printed.
use Rattle.std.proofs.Common.{◌≡◌, ℕ, suc, ◌+◌, ◌<◌, ◌≤◌, ◌^◌, true, List, [], ◌∷◌, Some, is_some, length, map, slice_get, refl, sym, ap, ap₂, ◌∙◌, subst, arith}
use Rattle.std.specs.List.{list_all, zip}
use Rattle.ks_core.specs.Table.{KeysymTable}
use Rattle.ks_core.specs.Lines.{is_sound}
use Rattle.kx_keys.specs.Vmodmap.{stands}
use Rattle.kx_keys.specs.LevelActions.{level_actions_of}
use Rattle.kx_builder.specs.IndicatorMaps.{ResolvedIndicator, with_indicator_maps}
use Rattle.kx_builder.specs.Placed.{content_of_resolved}
use Rattle.kx_builder.specs.Resolved.{ResolvedCell, ResolvedType}
use Rattle.kx_builder.specs.Seen.{seen}
use Rattle.kx_codes.specs.Codes.{name_of}
use Rattle.kx_codes.specs.Pairs.{name_in, pairs_of}
use Rattle.kx_compat.specs.Meaning.{interpretations_of}
use Rattle.kx_group_names.specs.Names.{AreGroupNames}
use Rattle.kx_include.specs.Expansion.{Begin, End}
use Rattle.kx_include.specs.declared.place.Place.{Place}
use Rattle.kx_indicators.specs.IndicatorMaps.{IndicatorMap}
use Rattle.kx_indicators.specs.Meaning.{indicator_map_of}
use Rattle.kx_keys.specs.Selecting.{RealSet}
use Rattle.kx_keys.specs.Mapping.{Mapping}
use Rattle.kx_virtual_mods.specs.Sets.{has}
use Rattle.kx_merge.specs.Offers.{value_of}
use Rattle.kx_mods.specs.Mods.{mask}
use Rattle.kx_modmaps.specs.Entries.{same_target}
use Rattle.kx_modmaps.specs.Maps.{keysyms_given, map_offers_of}
use Rattle.kx_modmaps.specs.declared.record.Cell.TheVariants.{Present}
use Rattle.kx_modmaps.specs.declared.target.Target.TheVariants.{Key as KeyTarget}
use Rattle.kx_tree.specs.declared.tree.Stated.{Stated}
use Rattle.kx_resolve.specs.Lit.{indicator_lit, indicators_of}
use Rattle.kx_source.specs.Meaning.{codes_of, declared_in, indicators_by, indicators_in, interpretations_in, key_given, key_in, keyed_in, indicator_maps_from, mapping_by, modmap_in, read_keymap_in, real_in, resolved_in, typing_in}
use Rattle.kx_source.specs.Source.{HoldsAll}
use Rattle.kx_tables.specs.Content.{Content}
use Rattle.kx_tables.specs.Sound.{Sound}
use Rattle.kx_tables.specs.States.{state_bits}
use Rattle.kx_types.specs.Types.{declared_type}
use Rattle.kx_types.specs.declared.limits.TheConstants.{MOST_TYPES}
use Rattle.kx_roundtrip.specs.Parts.{Parts, parts_of}
use Rattle.kx_roundtrip.proofs.Bodies.{keycodes, keys_are_stated, maps_are_stated, names_are_stated, parts_are}
use Rattle.kx_roundtrip.proofs.Faults.{codes_again, few_printed}
use Rattle.kx_roundtrip.proofs.Written.{library, shown}
use Rattle.roundtrip_meaning.specs.Bodies.{own_body, place_of}
use Rattle.roundtrip_meaning.specs.Sources.{indicators_body, symbols_place}
use Rattle.roundtrip_meaning.proofs.Codes.{pairs_printed}
use Rattle.roundtrip_meaning.specs.Given.{IsGiven}
use Rattle.roundtrip_meaning.proofs.KeySection.{keys_given, maps_given, maps_keysymless}
use Rattle.roundtrip_meaning.specs.Resolving.{ReadAgain, pair_of}
use Rattle.roundtrip_meaning.proofs.Resolving.{resolved_again}
use Rattle.roundtrip_meaning.proofs.ResolvingLevelActions.{level_actions_again, modmap_again}
use Rattle.roundtrip_meaning.proofs.ResolvingMasks.{mods_again, real_stands}
use Rattle.roundtrip_text.specs.Source.{AreApart, EachOf, IndicatorFits, KeyFits, PrintedKey, cell_at, indicators_printed, keys_printed, names_printed, types_printed}
use Rattle.roundtrip_text.proofs.Tables.{sound_placed}
use Rattle.roundtrip_text.proofs.TablesHold.{codes_rise, each_row, indicators_apart, indicators_few, indicators_fit, keys_apart, keys_fit, names_fit, types_apart, types_fit}
use Rattle.roundtrip_text.proofs.TablesLists.{each_at}
use Rattle.roundtrip_tree.specs.Indicators.{IsIndicator}
use Rattle.roundtrip_tree.specs.Shows.{AreShown, IsStated, none}
use Rattle.roundtrip_meaning.specs.Types.{definition_seen}
use Rattle.roundtrip_meaning.proofs.GroupNames.{names_printed_again}
use Rattle.roundtrip_meaning.proofs.Indicators.{indicators_named, indicator_maps_printed}
use Rattle.roundtrip_meaning.proofs.Interpretations.{no_interpretations, none_without}
use Rattle.roundtrip_meaning.proofs.Types.{types_declared}

-- ---- Indicators

abbrev indicator_map_for : ResolvedIndicator → IndicatorMap
indicator_map_for d = record { modifiers = mask d.mods; mod_states = state_bits d.mod_states; group_states = state_bits d.group_states; groups = d.groups }

module _ (real : ℕ → RealSet) (real_is : (set r : ℕ) → set < 2 ^ 8 → r < 8 → real set r ≡ has set r) where
  lit_again : (d : ResolvedIndicator) → IndicatorFits d → indicator_lit real d.name (indicator_map_for d) ≡ d
  lit_again d fits = λ i. record { name = d.name; mods = mods_again d.mods (real (mask d.mods)) fits.mods (λ r less. real_is (mask d.mods) r fits.mods less) i; mod_states = d.mod_states; group_states = d.group_states; groups = d.groups }

  all_lit : (indicator_map : ℕ → IndicatorMap) (n : ℕ) (ds : List ResolvedIndicator) → EachOf IndicatorFits ds → ((i : ℕ) (d : ResolvedIndicator) → slice_get ds i ≡ Some d → indicator_map (n + i) ≡ indicator_map_for d)
      → map (λ (i : List ℕ × IndicatorMap). indicator_lit real i.0 i.1) (zip (map (λ (d : ResolvedIndicator). d.name) ds) (indicator_maps_from indicator_map n (map (λ (d : ResolvedIndicator). d.name) ds))) ≡ ds
  all_lit indicator_map n [] fit each = refl
  all_lit indicator_map n (d ∷ ds) fit each =
      ap₂ (λ a b. a ∷ b) (ap (indicator_lit real d.name) (ap indicator_map (let same : n ≡ n + 0 = omega arith in same) ∙ each 0 d refl) ∙ lit_again d fit.0)
      (all_lit indicator_map (suc n) ds fit.1 (λ i e is. ap indicator_map (let same : suc n + i ≡ n + suc i = omega arith in same) ∙ each (suc i) e is))

  section_lit : (ds : List ResolvedIndicator) (is : List Stated) → AreShown (λ d i. IsStated (IsIndicator d) i) ds is → EachOf IndicatorFits ds → AreApart (λ (d : ResolvedIndicator). d.name) ds → length ds ≤ 32 → indicators_of real (indicators_by [] (indicators_body is)) ≡ ds
  section_lit [] [] none fit apart few = refl
  section_lit (d ∷ ds) [] are fit apart few = elim are [ ]
  section_lit ds (i ∷ is) are fit apart few =
      ap (λ ns. map (λ (i : List ℕ × IndicatorMap). indicator_lit real i.0 i.1) (zip ns (indicator_maps_from (indicator_map_of [] (Begin (own_body (place_of 2) (i ∷ is) End))) 0 ns))) (indicators_named (place_of 2) ds (i ∷ is) are fit apart few)
      ∙ all_lit (indicator_map_of [] (Begin (own_body (place_of 2) (i ∷ is) End))) 0 ds fit (λ j d at. ap (indicator_map_of [] (Begin (own_body (place_of 2) (i ∷ is) End))) (let same : 0 + j ≡ j = omega arith in same) ∙ indicator_maps_printed (place_of 2) ds (i ∷ is) are fit apart few j d at)

-- ---- Interpretations

interpretations_none : (names : KeysymTable) (ds : List ResolvedIndicator) (is : List Stated) → AreShown (λ d i. IsStated (IsIndicator d) i) ds is → interpretations_of names [] (indicators_body is) ≡ []
interpretations_none names ds [] are = none_without names
interpretations_none names ds (i ∷ is) are = no_interpretations names (place_of 2) ds (i ∷ is) are

-- ---- Types and keys

module _ (c : Content) (sound : Sound c) (names : KeysymTable) (table : list_all is_sound names.names ≡ true) (few_types : length c.types ≤ MOST_TYPES) where
  abbrev read : Parts
  read = parts_of (library c sound)

  abbrev place : Place
  place = symbols_place (shown c sound).indicators

  abbrev ks : List PrintedKey
  ks = keys_printed c

  real_is : (set r : ℕ) → set < 2 ^ 8 → r < 8 → real_in names (library c sound) set r ≡ has set r
  real_is set r small less = real_stands (stands (read_keymap_in names (library c sound))) set r small

  declared_are : EachOf (λ (t : ResolvedType). declared_in (library c sound) t.name ≡ Some (definition_seen t)) (types_printed c)
  declared_are =
      subst (λ p. EachOf (λ (t : ResolvedType). declared_type p.modifiers p.types t.name ≡ Some (definition_seen t)) (types_printed c)) (sym (parts_are c sound))
      (types_declared (place_of 1) (types_printed c) (shown c sound).types (shown c sound).types_are (types_fit c sound) (types_apart c sound) (few_printed c sound names table few_types))

  names_are : (code : ℕ) → (keyed_in names (library c sound)).name code ≡ name_in (map pair_of ks) code
  names_are code =
      ap (λ (p : Parts). name_in (pairs_of p.keycodes) code) (parts_are c sound)
      ∙ ap (λ ps. name_in ps code) (pairs_printed (place_of 0) ks (shown c sound).keycodes (shown c sound).keycodes_are (keys_fit c sound) (keys_apart c sound) (codes_rise c sound))

  given_are : EachOf (λ (k : PrintedKey). IsGiven k (key_in names (library c sound) k.code)) ks
  given_are =
      subst (λ p. EachOf (λ (k : PrintedKey). IsGiven k (key_given (codes_of p.keycodes) names p.modifiers p.symbols k.code)) ks) (sym (parts_are c sound))
      (keys_given (codes_of (keycodes c sound)) names place ks (shown c sound).names (shown c sound).keys (shown c sound).maps table (names_are_stated c sound) (shown c sound).keys_are (shown c sound).maps_are (keys_fit c sound) (codes_rise c sound) (codes_again c sound names table few_types))

  no_keysyms : keysyms_given (map_offers_of (codes_of read.keycodes) names read.modifiers read.symbols) ≡ []
  no_keysyms =
      ap (λ (p : Parts). keysyms_given (map_offers_of (codes_of p.keycodes) names p.modifiers p.symbols)) (parts_are c sound)
      ∙ maps_keysymless (codes_of (keycodes c sound)) names place ks (shown c sound).names (shown c sound).keys (shown c sound).maps table (names_are_stated c sound) (shown c sound).keys_are (shown c sound).maps_are (keys_fit c sound) (codes_rise c sound) (codes_again c sound names table few_types)

  abbrev mapping : Mapping
  mapping = mapping_by (name_of (codes_of read.keycodes)) (key_in names (library c sound)) (typing_in names (library c sound)) (map_offers_of (codes_of read.keycodes) names read.modifiers read.symbols)

  abbrev IsMapped : Parts → PrintedKey → Type 0
  IsMapped p k = (real : ℕ) → real < 8 → is_some (value_of same_target (map_offers_of (codes_of p.keycodes) names p.modifiers p.symbols) (KeyTarget k.code) (Present real)) ≡ has (mask k.modmap) real

  maps_are : EachOf (IsMapped read) ks
  maps_are =
      subst (λ p. EachOf (IsMapped p) ks) (sym (parts_are c sound))
      (maps_given (codes_of (keycodes c sound)) names place ks (shown c sound).names (shown c sound).keys (shown c sound).maps table (names_are_stated c sound) (shown c sound).keys_are (shown c sound).maps_are (keys_fit c sound) (codes_rise c sound) (codes_again c sound names table few_types))

  mapped_are : EachOf (λ (k : PrintedKey). modmap_in names (library c sound) k.code ≡ k.modmap) ks
  mapped_are = each_row (λ (k : PrintedKey). modmap_in names (library c sound) k.code ≡ k.modmap) ks (λ i k at.
      modmap_again mapping k.code k.modmap (each_at KeyFits ks (keys_fit c sound) i k at).mapped no_keysyms (each_at (IsMapped read) ks maps_are i k at))

  interpretations_are : interpretations_in names (library c sound) ≡ []
  interpretations_are = ap (λ (p : Parts). interpretations_of names p.modifiers p.compat) (parts_are c sound) ∙ interpretations_none names (indicators_printed c) (shown c sound).indicators (shown c sound).indicators_are

  level_actions_are : EachOf (λ (k : PrintedKey). (group level : ℕ) (d : ResolvedCell) → cell_at k group level ≡ Some d → (keyed_in names (library c sound)).level_actions k.code group level ≡ d.action) ks
  level_actions_are = each_row _ ks (λ i k at group level d there.
      ap (λ is. level_actions_of (real_in names (library c sound)) is (modmap_in names (library c sound) k.code) (key_in names (library c sound) k.code) group level) interpretations_are
      ∙ level_actions_again (real_in names (library c sound)) real_is k (each_at KeyFits ks (keys_fit c sound) i k at) (key_in names (library c sound) k.code)
      (each_at (λ (k : PrintedKey). IsGiven k (key_in names (library c sound) k.code)) ks given_are i k at) (modmap_in names (library c sound) k.code) group level d there)

  read_again : ReadAgain c (real_in names (library c sound)) (typing_in names (library c sound)) (keyed_in names (library c sound))
  read_again = record { real_is = real_is; declared_are = declared_are; names_are = names_are; given_are = given_are; mapped_are = mapped_are; level_actions_are = level_actions_are }

  resolved_is : resolved_in names (library c sound) ≡ seen c
  resolved_is = resolved_again c sound (real_in names (library c sound)) (typing_in names (library c sound)) (keyed_in names (library c sound)) read_again

  indicators_is : indicators_in names (library c sound) ≡ indicators_printed c
  indicators_is =
      ap (λ (p : Parts). indicators_of (real_in names (library c sound)) (indicators_by p.modifiers p.compat)) (parts_are c sound)
      ∙ section_lit (real_in names (library c sound)) real_is (indicators_printed c) (shown c sound).indicators (shown c sound).indicators_are (indicators_fit c sound) (indicators_apart c sound) (indicators_few c sound)

  names_is : (groups : List (List ℕ)) → AreGroupNames groups read.symbols → groups ≡ names_printed c
  names_is groups are =
      names_printed_again place (names_printed c) (shown c sound).names (shown c sound).keys (shown c sound).maps (shown c sound).names_are (keys_are_stated c sound) (maps_are_stated c sound) (names_fit c sound) groups
      (subst (λ (p : Parts). AreGroupNames groups p.symbols) (parts_are c sound) are)

  -- the tables that the printed text's library holds are those that were printed
  pub holds_again : (d : Content) → HoldsAll names (library c sound) d → d ≡ c
  holds_again d holds =
      holds.content_is
      ∙ (λ i. with_indicator_maps (content_of_resolved (resolved_is i)) (indicators_is i) (names_is holds.groups holds.groups_are i))
      ∙ sound_placed c sound

-- A printed text has no fault.
use Rattle.std.proofs.Common.{◌≡◌, ◌≤◌, true, List, [], ◌∷◌, ◌++◌, length, Some, ap, ap₂, ◌∙◌, arith}
use Rattle.std.proofs.lemmas.List.{length-map}
use Rattle.std.specs.List.{list_all}
use Rattle.ks_core.specs.Table.{KeysymTable}
use Rattle.ks_core.specs.Lines.{is_sound}
use Rattle.kx_builder.specs.IndicatorMaps.{ResolvedIndicator}
use Rattle.kx_builder.specs.Seen.{type_seen}
use Rattle.kx_codes.specs.CodeFaults.{faults_of as keycodes_faults}
use Rattle.kx_codes.specs.Codes.{code_of}
use Rattle.kx_compat.specs.Meaning.{compat_faults}
use Rattle.kx_indicators.specs.Meaning.{indicator_maps_faults}
use Rattle.kx_lex.specs.declared.fault.Fault.{Fault}
use Rattle.kx_virtual_mods.specs.Declarations.{modifier_faults}
use Rattle.kx_tree.specs.declared.tree.Stated.{Stated}
use Rattle.kx_source.specs.Meaning.{codes_of}
use Rattle.kx_source.specs.Source.{keys_faults, maps_faults, names_faults, statement_faults}
use Rattle.kx_tables.specs.Content.{Content}
use Rattle.kx_tables.specs.Sound.{Sound}
use Rattle.kx_types.specs.Types.{types_faults}
use Rattle.kx_types.specs.declared.limits.TheConstants.{MOST_TYPES}
use Rattle.kx_roundtrip.specs.Parts.{Parts}
use Rattle.kx_roundtrip.proofs.Bodies.{compat, compat_declares_none, keycodes, keys_are_stated, maps_are_stated, names_are_stated, parts, parts_are, symbols, symbols_declare_none, types, types_declare_none}
use Rattle.kx_roundtrip.proofs.Written.{library, shown}
use Rattle.roundtrip_meaning.specs.Bodies.{place_of}
use Rattle.roundtrip_meaning.specs.Sources.{indicators_body, symbols_place}
use Rattle.roundtrip_meaning.proofs.Codes.{codes_faultless, codes_printed}
use Rattle.roundtrip_meaning.proofs.KeySection.{keys_faultless, maps_faultless}
use Rattle.roundtrip_text.specs.Source.{AreApart, EachOf, IndicatorFits, PrintedKey, indicators_printed, keys_printed, names_printed, types_printed}
use Rattle.roundtrip_text.proofs.TablesHold.{codes_rise, indicators_apart, indicators_few, indicators_fit, keys_apart, keys_fit, names_fit, types_apart, types_fit}
use Rattle.roundtrip_tree.specs.Indicators.{IsIndicator}
use Rattle.roundtrip_tree.specs.Shows.{AreShown, IsStated}
use Rattle.roundtrip_meaning.proofs.GroupNames.{names_faultless}
use Rattle.roundtrip_meaning.proofs.Indicators.{indicator_maps_faultless, no_indicator_maps_faultless}
use Rattle.roundtrip_meaning.proofs.Interpretations.{faultless_without, interpretations_faultless}
use Rattle.roundtrip_meaning.proofs.NoModifiers.{modifiers_faultless}
use Rattle.roundtrip_meaning.proofs.Types.{types_faultless}

-- the faults of a library, by its parts
abbrev faults_by : KeysymTable → Parts → List Fault
faults_by names p =
    modifier_faults (p.types ∷ p.compat ∷ p.symbols ∷ [])
    ++ (keycodes_faults p.keycodes
    ++ (types_faults p.modifiers p.types
    ++ ((keys_faults (codes_of p.keycodes) names p.modifiers p.symbols ++ maps_faults (codes_of p.keycodes) names p.modifiers p.symbols)
    ++ (compat_faults names p.modifiers p.compat
    ++ (names_faults p.symbols
    ++ indicator_maps_faults p.modifiers p.compat)))))

module _ (c : Content) (sound : Sound c) (names : KeysymTable) (table : list_all is_sound names.names ≡ true) (few_types : length c.types ≤ MOST_TYPES) where
  pub codes_again : EachOf (λ (k : PrintedKey). code_of (codes_of (keycodes c sound)) k.name ≡ Some k.code) (keys_printed c)
  codes_again = codes_printed (place_of 0) (keys_printed c) (shown c sound).keycodes (shown c sound).keycodes_are (keys_fit c sound) (keys_apart c sound) (codes_rise c sound)

  pub few_printed : length (types_printed c) ≤ MOST_TYPES
  few_printed = let size = length-map c.types (type_seen c) in omega (arith, few_types, size)

  indicator_maps_none : (ds : List ResolvedIndicator) (is : List Stated) → AreShown (λ d i. IsStated (IsIndicator d) i) ds is → EachOf IndicatorFits ds → AreApart (λ (d : ResolvedIndicator). d.name) ds → length ds ≤ 32 → indicator_maps_faults [] (indicators_body is) ≡ []
  indicator_maps_none ds [] are fit apart few = no_indicator_maps_faultless
  indicator_maps_none ds (i ∷ is) are fit apart few = indicator_maps_faultless (place_of 2) ds (i ∷ is) are fit apart few

  interpretations_none : (ds : List ResolvedIndicator) (is : List Stated) → AreShown (λ d i. IsStated (IsIndicator d) i) ds is → compat_faults names [] (indicators_body is) ≡ []
  interpretations_none ds [] are = faultless_without names
  interpretations_none ds (i ∷ is) are = interpretations_faultless names (place_of 2) ds (i ∷ is) are

  parts_faultless : faults_by names (parts c sound) ≡ []
  parts_faultless =
      ap₂ (λ (a b : List Fault). a ++ b) (modifiers_faultless (types c sound) (compat c sound) (symbols c sound) (types_declare_none c sound) (compat_declares_none c sound) (symbols_declare_none c sound))
      (ap₂ (λ (a b : List Fault). a ++ b) (codes_faultless (place_of 0) (keys_printed c) (shown c sound).keycodes (shown c sound).keycodes_are (keys_fit c sound) (keys_apart c sound) (codes_rise c sound))
      (ap₂ (λ (a b : List Fault). a ++ b) (types_faultless (place_of 1) (types_printed c) (shown c sound).types (shown c sound).types_are (types_fit c sound) (types_apart c sound) few_printed)
      (ap₂ (λ (a b : List Fault). a ++ b)
      (ap₂ (λ (a b : List Fault). a ++ b)
      (keys_faultless (codes_of (keycodes c sound)) names (symbols_place (shown c sound).indicators) (keys_printed c) (shown c sound).names (shown c sound).keys (shown c sound).maps table (names_are_stated c sound) (shown c sound).keys_are (shown c sound).maps_are (keys_fit c sound) (codes_rise c sound) codes_again)
      (maps_faultless (codes_of (keycodes c sound)) names (symbols_place (shown c sound).indicators) (keys_printed c) (shown c sound).names (shown c sound).keys (shown c sound).maps table (names_are_stated c sound) (shown c sound).keys_are (shown c sound).maps_are (keys_fit c sound) (codes_rise c sound) codes_again))
      (ap₂ (λ (a b : List Fault). a ++ b) (interpretations_none (indicators_printed c) (shown c sound).indicators (shown c sound).indicators_are)
      (ap₂ (λ (a b : List Fault). a ++ b)
      (names_faultless (symbols_place (shown c sound).indicators) (names_printed c) (shown c sound).names (shown c sound).keys (shown c sound).maps (shown c sound).names_are (keys_are_stated c sound) (maps_are_stated c sound) (names_fit c sound))
      (indicator_maps_none (indicators_printed c) (shown c sound).indicators (shown c sound).indicators_are (indicators_fit c sound) (indicators_apart c sound) (indicators_few c sound)))))))

  pub faultless : statement_faults names (library c sound) ≡ []
  faultless = ap (faults_by names) (parts_are c sound) ∙ parts_faultless

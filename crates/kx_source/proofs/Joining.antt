-- What is read of a source is what its statements mean.
use Rattle.std.proofs.Common.{ℕ, zero, suc, ◌≡◌, ◌<◌, ◌||◌, ◌&&◌, Bool, List, [], ◌∷◌, ◌++◌, Option, None, Some, ◌+◌, fold, length, map, slice_get, nat_eq, refl, ap, ◌∙◌, arith, lt_trans, lt-suc_self}
use Rattle.std.proofs.lemmas.Option.{same_Some}
use Rattle.kx_modmaps.specs.Entries.{same_target}
use Rattle.std.proofs.Math.Path.{fun_ext}
use Rattle.std.specs.List.{zip}
use Rattle.std.specs.Option.{option_and_then, option_map, option_or}
use Rattle.ks_core.specs.Table.{KeysymTable}
use Rattle.kx_keys.specs.Vmodmap.{ReadKeymap, brings, stands}
use Rattle.kx_keys.specs.LevelActions.{level_actions_of}
use Rattle.kx_resolve.specs.ReadVmodmap.{read_keymap_of}
use Rattle.kx_builder.specs.IndicatorMaps.{keymap_with, indicator_map_of_indicator}
use Rattle.kx_compat.specs.Interpretations.{Interpretation}
use Rattle.kx_codes.proofs.Targets.{target_same as alias_same}
use Rattle.kx_codes.specs.Codes.{Codes, CodesShow, code_of, name_of}
use Rattle.kx_compat.specs.Meaning.{compat_faults, interpretations_of}
use Rattle.kx_include.specs.Bodies.{AreBodies}
use Rattle.kx_include.specs.Expansion.{Body, body_of}
use Rattle.kx_include.specs.Library.{Library}
use Rattle.kx_include.specs.Shared.{expanded_body}
use Rattle.kx_include.specs.declared.expansion.Bodies.{Bodies}
use Rattle.kx_indicators.specs.IndicatorMaps.{IndicatorMap}
use Rattle.kx_indicators.specs.Meaning.{AreIndicators, Indicators, indicator_names, indicator_map_of, indicator_maps_faults}
use Rattle.kx_keys.specs.Selecting.{RealSet}
use Rattle.kx_lex.specs.declared.name.Name.{Name}
use Rattle.kx_keys.specs.Mapping.{modmap_of}
use Rattle.kx_virtual_mods.specs.Declarations.{AreModNames, ModNames, declared_mask, modifier_bodies, virtual_names}
use Rattle.kx_virtual_mods.specs.Sets.{any_below, has, has_virtual, real_of, real_part}
use Rattle.kx_virtual_mods.specs.Standing.{stands_for}
use Rattle.kx_virtual_mods.specs.declared.limits.TheConstants.{MOST_VIRTUAL_MODIFIERS}
use Rattle.kx_merge.specs.Bodies.{Rules, faults_of, offers_of}
use Rattle.kx_merge.specs.Offers.{value_of, width_of}
use Rattle.kx_modmaps.specs.Entries.{entry_target, map_in, stated_faults as map_faults, targets_of, with_target, word_mask}
use Rattle.kx_modmaps.specs.Maps.{map_moves, map_offers, map_offers_of, map_rules, offers_to}
use Rattle.kx_modmaps.specs.declared.target.Target.{Target}
use Rattle.kx_modmaps.specs.declared.target.Target.TheVariants.{Key as KeyTarget}
use Rattle.kx_mods.specs.declared.mods.Mods.{Mods}
use Rattle.kx_tree.specs.declared.tree.Entry.{Entry as MapEntry}
use Rattle.kx_tree.specs.declared.tree.Entry.TheVariants.{KeyName, Symbol}
use Rattle.kx_tree.specs.declared.tree.Kind.TheVariants.{Compat, Keycodes, Symbols}
use Rattle.kx_tree.specs.declared.tree.KeyField.{KeyField}
use Rattle.kx_tree.specs.declared.tree.Mode.{Mode}
use Rattle.kx_keys.specs.Keys.{keyed_of, resolved_of}
use Rattle.kx_resolve.specs.Lit.{indicator_lit, indicators_of}
use Rattle.kx_resolve.specs.Shown.{keymap_meant}
use Rattle.kx_source.specs.Meaning.{codes_in, codes_of, declared_in, declared_masks_of, indicators_by, indicators_in, interpretations_in, key_given, key_in, keyed_in, keymap_by, keymap_in, indicator_maps_from, lit_by, mapping_by, modifier_bodies_of, modifiers_of, modmap_in, read_keymap_in, real_in, resolved_in, typing_in}
use Rattle.kx_source.specs.Made.{parts_faults}
use Rattle.kx_source.specs.Source.{keys_faults, maps_faults, names_faults}
use Rattle.kx_symbols.specs.KeyFaults.{key_in as key_said, stated_faults}
use Rattle.kx_symbols.specs.Keys.{KeyContent, KeysShow, field_in, key_at, key_moves, key_rules, known_under, offered, said_next, said_offers}
use Rattle.kx_symbols.specs.Known.{Defaults, Known, no_defaults}
use Rattle.kx_symbols.specs.declared.cells.Cell.{Cell}
use Rattle.kx_symbols.specs.declared.cells.CellValue.{CellValue}
use Rattle.kx_types.specs.Types.{NamedTypes, TypesShow, declared_type, type_named}
use Rattle.kx_keys.specs.Given.{KeyGiven, given_by, given_in}
use Rattle.kx_keys.specs.Typing.{typing_by}

any_same : (n : ℕ) (f g : ℕ → Bool) → ((k : ℕ) → k < n → f k ≡ g k) → any_below n f ≡ any_below n g
unfolding any_below
any_same zero f g same = refl
any_same (suc n) f g same = λ i. any_same n f g (λ k less. same k (lt_trans less (lt-suc_self n))) i || same n (lt-suc_self n) i

-- ---- Codes

module _ (c : Codes) (body : Body) (shows : CodesShow c body) where
  -- the code of a name is that of the body's pairs and aliases
  code_same : (name : List ℕ) → code_of c name ≡ code_of (codes_of body) name
  code_same name = λ i. option_or (shows.codes_are name i) (option_and_then (λ target. shows.codes_are target i) (alias_same c body shows name i))

  pub names_same : name_of c ≡ name_of (codes_of body)
  names_same = fun_ext shows.names_are

  module _ (names : KeysymTable) (modifiers : List (List ℕ)) where
    said_same : (known : Known) (mode : Mode) (key : Option (Name × List KeyField)) → said_offers c known mode key ≡ said_offers (codes_of body) known mode key
    said_same known mode None = refl
    said_same known mode (Some key) = ap (offered known key.1 mode) (code_same key.0.bytes)

    pub rules_same : key_rules c names modifiers ≡ key_rules (codes_of body) names modifiers
    rules_same = λ i. record {
      start = no_defaults;
      next = λ d stated. said_next modifiers d (field_in stated.statement);
      offers = λ d place stated. said_same (known_under c names modifiers d) stated.mode (key_said stated.statement) i;
      faults = λ d place stated. stated_faults place.file (known_under c names modifiers d) stated;
    }

    -- ---- Modifier maps

    target_same : (entry : MapEntry) → entry_target c names entry ≡ entry_target (codes_of body) names entry
    target_same (KeyName name) = ap (option_map (λ code. KeyTarget code)) (code_same name.bytes)
    target_same (Symbol symbol) = refl

    targets_same : (entries : List MapEntry) → targets_of c names entries ≡ targets_of (codes_of body) names entries
    targets_same entries = ap (λ target. fold (λ (targets : List Target) (entry : MapEntry). with_target targets (target entry)) [] entries) (fun_ext target_same)

    map_same : (mode : Mode) (map : Option (Name × List MapEntry)) → map_offers c names mode map ≡ map_offers (codes_of body) names mode map
    map_same mode None = refl
    map_same mode (Some map) = ap (offers_to mode (word_mask map.0.bytes)) (targets_same map.1)

    pub map_rules_same : map_rules c names modifiers ≡ map_rules (codes_of body) names modifiers
    map_rules_same = λ i. record {
      start = tt;
      next = λ d stated. tt;
      offers = λ d place stated. map_same stated.mode (map_in stated.statement) i;
      faults = λ d place stated. map_faults place.file modifiers stated;
    }

-- ---- Indicators

indicator_maps_lit : (real : ℕ → RealSet) (indicator_map : ℕ → IndicatorMap) (n : ℕ) (names : List (List ℕ)) → map indicator_map_of_indicator (map (λ (d : List ℕ × IndicatorMap). indicator_lit real d.0 d.1) (zip names (indicator_maps_from indicator_map n names))) ≡ indicator_maps_from (λ k. lit_by real (indicator_map k)) n names
indicator_maps_lit real indicator_map n [] = refl
indicator_maps_lit real indicator_map n (name ∷ names) = ap (λ ls. lit_by real (indicator_map n) ∷ ls) (indicator_maps_lit real indicator_map (suc n) names)

-- what tables show is what is meant
keymap_meant-in : (names : KeysymTable) (library : Library) → keymap_with (keymap_meant (real_in names library) (typing_in names library) (keyed_in names library)) (indicators_in names library) ≡ keymap_in names library
keymap_meant-in names library = ap (keymap_by (real_in names library) (read_keymap_in names library)) (indicator_maps_lit (real_in names library) (indicator_map_of (modifiers_of library) (body_of library Compat)) 0 (indicator_names (body_of library Compat)))

indicator_maps_by : (indicator_map : ℕ → IndicatorMap) (n : ℕ) (names : List (List ℕ)) (indicator_maps : List IndicatorMap) → length indicator_maps ≡ length names → ((k : ℕ) → k < length names → slice_get indicator_maps k ≡ Some (indicator_map (k + n))) → indicator_maps ≡ indicator_maps_from indicator_map n names
indicator_maps_by indicator_map n [] [] same are = refl
indicator_maps_by indicator_map n [] (l ∷ ls) same are = absurd (omega (arith, same))
indicator_maps_by indicator_map n (x ∷ xs) [] same are = absurd (omega (arith, same))
indicator_maps_by indicator_map n (x ∷ xs) (l ∷ ls) same are =
    let first : 0 < length (x ∷ xs) = omega arith in
    let fewer : length ls ≡ length xs = omega (arith, same) in
    let none : 0 + n ≡ n = omega arith in
    λ i. same_Some l (indicator_map n) (are 0 first ∙ ap (λ m. Some (indicator_map m)) none) i
    ∷ indicator_maps_by indicator_map (suc n) xs ls fewer (λ k less. let within : suc k < length (x ∷ xs) = omega (arith, less) in let one : suc k + n ≡ k + suc n = omega arith in are (suc k) within ∙ ap (λ m. Some (indicator_map m)) one) i

-- ---- What is read

module _ (library : Library) (bodies : Bodies) (are : AreBodies library bodies) where
  pub bodies_same : modifier_bodies bodies ≡ modifier_bodies_of library
  bodies_same = λ i. are.types i ∷ are.compat i ∷ are.symbols i ∷ []

  module _ (m : ModNames) (shows : AreModNames m (modifier_bodies bodies)) where
    pub modifiers_same : m.names ≡ modifiers_of library
    modifiers_same = shows.names_are ∙ ap virtual_names bodies_same

    masks_same : (n real : ℕ) → n < MOST_VIRTUAL_MODIFIERS → stands_for m.masks n real ≡ declared_masks_of library n real
    masks_same n real less = ap (λ k. has k real) (shows.masks_are n less ∙ (λ i. declared_mask (modifiers_same i) (bodies_same i) n))

    pub indicators_same : (found : Indicators) → AreIndicators found m.names (expanded_body bodies.compat) → found ≡ indicators_by (modifiers_of library) (body_of library Compat)
    indicators_same found same = by_body ∙ (λ i. indicators_by (modifiers_same i) (are.compat i))
      where
        counted : length found.names ≡ length (indicator_names (expanded_body bodies.compat))
        counted = ap length same.names_are

        indicator_maps_are : found.indicator_maps ≡ indicator_maps_from (indicator_map_of m.names (expanded_body bodies.compat)) 0 (indicator_names (expanded_body bodies.compat))
        indicator_maps_are =
            indicator_maps_by (indicator_map_of m.names (expanded_body bodies.compat)) 0 (indicator_names (expanded_body bodies.compat)) found.indicator_maps (same.as_many ∙ counted)
            (λ k less. let within : k < length found.names = omega (arith, less, counted) in let none : k ≡ k + 0 = omega arith in same.indicator_maps_are k within ∙ ap (λ j. Some (indicator_map_of m.names (expanded_body bodies.compat) j)) none)

        by_body : found ≡ indicators_by m.names (expanded_body bodies.compat)
        by_body = λ i. record { names = same.names_are i; indicator_maps = indicator_maps_are i }

    module _ (types : NamedTypes) (types_show : TypesShow types m.names (expanded_body bodies.types)) where
      pub declared_same : type_named types ≡ declared_in library
      declared_same = fun_ext (λ name. types_show.definitions_are name ∙ (λ i. declared_type (modifiers_same i) (are.types i) name))

      -- ---- Keys, and all together

      module _ (c : Codes) (codes_show : CodesShow c (body_of library Keycodes)) (names : KeysymTable) where
        typing_same : typing_by types names.letters ≡ typing_in names library
        typing_same = λ i. record { declared = declared_same i; letters = names.letters }

        keys_faults_same : keys_faults c names m.names (expanded_body bodies.symbols) ≡ keys_faults (codes_in library) names (modifiers_of library) (body_of library Symbols)
        keys_faults_same =
            (λ i. keys_faults c names (modifiers_same i) (are.symbols i))
            ∙ ap (λ rules. faults_of nat_eq rules key_moves (body_of library Symbols)) (rules_same c (body_of library Keycodes) codes_show names (modifiers_of library))

        maps_faults_same : maps_faults c names m.names (expanded_body bodies.symbols) ≡ maps_faults (codes_in library) names (modifiers_of library) (body_of library Symbols)
        maps_faults_same =
            (λ i. maps_faults c names (modifiers_same i) (are.symbols i))
            ∙ ap (λ rules. faults_of same_target rules map_moves (body_of library Symbols)) (map_rules_same c (body_of library Keycodes) codes_show names (modifiers_of library))

        pub parts_faults_same : parts_faults c names m.names (expanded_body bodies.compat) (expanded_body bodies.symbols) ≡ parts_faults (codes_in library) names (modifiers_of library) (body_of library Compat) (body_of library Symbols)
        parts_faults_same = λ i.
            (keys_faults_same i ++ maps_faults_same i)
            ++ (compat_faults names (modifiers_same i) (are.compat i) ++ (names_faults (are.symbols i) ++ indicator_maps_faults (modifiers_same i) (are.compat i)))

        maps_same : map_offers_of c names m.names (expanded_body bodies.symbols) ≡ map_offers_of (codes_in library) names (modifiers_of library) (body_of library Symbols)
        maps_same =
            (λ i. map_offers_of c names (modifiers_same i) (are.symbols i))
            ∙ ap (λ rules. offers_of same_target rules map_moves (body_of library Symbols)) (map_rules_same c (body_of library Keycodes) codes_show names (modifiers_of library))

        module _ (keys : List (ℕ × KeyContent)) (keys_show : KeysShow keys c names m.names (expanded_body bodies.symbols)) where
          given_same : (λ (code : ℕ). given_in (key_at keys code)) ≡ key_given c names m.names (expanded_body bodies.symbols)
          given_same = λ i. λ code. given_by (λ cell. keys_show.cells_are code cell i) (λ group. keys_show.widths_are code group i)

          by_rules : Rules ℕ Cell CellValue Defaults → ℕ → KeyGiven
          by_rules rules code = given_by (value_of nat_eq (offers_of nat_eq rules key_moves (body_of library Symbols)) code) (width_of nat_eq (offers_of nat_eq rules key_moves (body_of library Symbols)) code)

          keys_same : (λ (code : ℕ). given_in (key_at keys code)) ≡ key_in names library
          unfolding by_rules
          keys_same = given_same ∙ (λ i. key_given c names (modifiers_same i) (are.symbols i)) ∙ ap by_rules (rules_same c (body_of library Keycodes) codes_show names (modifiers_of library))

          module _ (modmaps : ℕ → Mods) (mapped : (code : ℕ) → modmaps code ≡ modmap_of (mapping_by (name_of c) (λ k. given_in (key_at keys k)) (typing_by types names.letters) (map_offers_of c names m.names (expanded_body bodies.symbols))) code) where
            pub modmaps_same : modmaps ≡ modmap_in names library
            modmaps_same = fun_ext mapped ∙ (λ i. modmap_of (mapping_by (names_same c (body_of library Keycodes) codes_show i) (keys_same i) (typing_same i) (maps_same i)))

            module _ (interpretations : List Interpretation) (interpreted : interpretations ≡ interpretations_of names m.names (expanded_body bodies.compat)) where
              interpretations_same : interpretations ≡ interpretations_in names library
              interpretations_same = interpreted ∙ (λ i. interpretations_of names (modifiers_same i) (are.compat i))

              -- as it is read, but for the masks that are declared
              abbrev read_with : (ℕ → RealSet) → ReadKeymap
              read_with masks = record {
                name = name_of c;
                key = λ code. given_in (key_at keys code);
                modmap = modmaps;
                typing = typing_by types names.letters;
                interpretations = interpretations;
                masks = masks;
              }

              read_same : read_with (declared_masks_of library) ≡ read_keymap_in names library
              read_same = λ i. record {
                name = names_same c (body_of library Keycodes) codes_show i;
                key = keys_same i;
                modmap = modmaps_same i;
                typing = typing_same i;
                interpretations = interpretations_same i;
                masks = declared_masks_of library;
              }

              module _ (found : List Mods) (stand : (n real : ℕ) → n < MOST_VIRTUAL_MODIFIERS → stands_for found n real ≡ stands (read_keymap_of c (typing_by types names.letters) keys modmaps interpretations m.masks) n real) where
                stands_same : (n real : ℕ) → n < MOST_VIRTUAL_MODIFIERS → stands_for found n real ≡ stands (read_keymap_in names library) n real
                stands_same n real less =
                    stand n real less
                    ∙ ap (λ b. b || any_below 4096 (brings (read_with (declared_masks_of library)) n real)) (masks_same n real less)
                    ∙ ap (λ r. stands r n real) read_same

                pub real_same : real_of (stands_for found) ≡ real_in names library
                real_same = fun_ext (λ set. fun_ext (λ real. ap (λ b. has (real_part set) real || b) (any_same MOST_VIRTUAL_MODIFIERS (λ n. has_virtual set n && stands_for found n real) (λ n. has_virtual set n && stands (read_keymap_in names library) n real) (λ n less. ap (λ b. has_virtual set n && b) (stands_same n real less)))))

                keyed_same : keyed_of (real_of (stands_for found)) c keys modmaps interpretations ≡ keyed_in names library
                keyed_same = λ i. record {
                  name = names_same c (body_of library Keycodes) codes_show i;
                  key = keys_same i;
                  modmap = modmaps_same i;
                  level_actions = λ code. level_actions_of (real_same i) (interpretations_same i) (modmaps_same i code) (keys_same i code);
                }

                pub resolved_same : resolved_of (real_of (stands_for found)) (typing_by types names.letters) (keyed_of (real_of (stands_for found)) c keys modmaps interpretations) ≡ resolved_in names library
                resolved_same = λ i. resolved_of (real_same i) (typing_same i) (keyed_same i)

                module _ (indicator_maps : Indicators) (indicator_maps_are : AreIndicators indicator_maps m.names (expanded_body bodies.compat)) where
                  pub lit_same : indicators_of (real_of (stands_for found)) indicator_maps ≡ indicators_in names library
                  lit_same = λ i. indicators_of (real_same i) (indicators_same indicator_maps indicator_maps_are i)

                  pub keymap_same : keymap_with (keymap_meant (real_of (stands_for found)) (typing_by types names.letters) (keyed_of (real_of (stands_for found)) c keys modmaps interpretations)) (indicators_of (real_of (stands_for found)) indicator_maps) ≡ keymap_in names library
                  keymap_same =
                      let joined : keymap_with (keymap_meant (real_of (stands_for found)) (typing_by types names.letters) (keyed_of (real_of (stands_for found)) c keys modmaps interpretations)) (indicators_of (real_of (stands_for found)) indicator_maps) ≡ keymap_with (keymap_meant (real_in names library) (typing_in names library) (keyed_in names library)) (indicators_in names library) = λ i. keymap_with (keymap_meant (real_same i) (typing_same i) (keyed_same i)) (lit_same i) in
                      joined ∙ keymap_meant-in names library

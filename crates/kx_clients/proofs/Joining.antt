-- What is read of a source is what its statements mean.
use Rattle.std.proofs.Common.{if◌then◌else◌, subst, sym, ℕ, zero, suc, ◌≡◌, ◌<◌, ◌||◌, Bool, List, [], ◌∷◌, ◌++◌, Option, None, Some, fold, length, map, nat_eq, refl, ap, ◌∙◌, arith, lt_trans, lt-suc_self}
use Rattle.kx_modmaps.specs.Entries.{same_target}
use Rattle.std.proofs.Math.Path.{fun_ext}
use Rattle.std.specs.List.{flat_map}
use Rattle.std.specs.Str.{bytes_eq}
use Rattle.kx_merge.specs.Last.{last_given}
use Rattle.std.specs.Option.{option_and_then, option_map, option_map_or, option_or}
use Rattle.ks_core.specs.Table.{KeysymTable}
use Rattle.kx_keys.specs.Vmodmap.{ReadKeymap, brings, stands}
use Rattle.kx_resolve.specs.ReadVmodmap.{read_keymap_of}
use Rattle.kx_compat.specs.Interpretations.{Interpretation}
use Rattle.kx_clients.specs.IndicatorNames.{AreIndicatorNames}
use Rattle.kx_clients.specs.Aliases.{known_alias, known_aliases}
use Rattle.kx_clients.specs.DeclaredTypes.{declared_types, defined_type}
use Rattle.kx_clients.specs.VirtualModifiers.{mods_among}
use Rattle.kx_clients.specs.KeyRepeats.{field_repeat, key_offers as repeat_offers, next_default, repeat_rules, said_repeat}
use Rattle.kx_clients.specs.InterpretationRepeats.{match_repeats}
use Rattle.kx_clients.specs.LeavesOut.{AreLeftOut}
use Rattle.kx_clients.specs.LeftOut.{LeftOut}
use Rattle.kx_clients.specs.Made.{AreOfKeys}
use Rattle.kx_clients.specs.Repeats.{key_repeats}
use Rattle.kx_clients.specs.declared.alias.Alias.{Alias}
use Rattle.kx_clients.specs.declared.key_repeat.KeyRepeat.{KeyRepeat}
use Rattle.kx_codes.proofs.Targets.{target_same as alias_same}
use Rattle.kx_codes.specs.Aliases.{alias_offers}
use Rattle.kx_codes.specs.Codes.{Codes, CodesShow, code_of, name_of}
use Rattle.kx_compat.specs.Meaning.{compat_faults, interpretations_of}
use Rattle.kx_include.specs.Bodies.{AreBodies}
use Rattle.kx_include.specs.Expansion.{Body, body_of}
use Rattle.kx_include.specs.Library.{Library}
use Rattle.kx_include.specs.Shared.{expanded_body}
use Rattle.kx_include.specs.declared.expansion.Bodies.{Bodies}
use Rattle.kx_keys.specs.Selecting.{RealSet}
use Rattle.kx_lex.specs.declared.name.Name.{Name}
use Rattle.kx_keys.specs.Mapping.{modmap_of}
use Rattle.kx_virtual_mods.specs.Declarations.{AreModNames, ModNames, declared_mask, modifier_bodies, virtual_names}
use Rattle.kx_virtual_mods.specs.Sets.{any_below, has, real_of}
use Rattle.kx_virtual_mods.specs.Standing.{stands_for}
use Rattle.kx_merge.specs.Bodies.{no_moves, Rules, faults_of, offers_of}
use Rattle.kx_merge.specs.Offers.{names_of, offers_to as offers_for, value_of, width_of}
use Rattle.kx_modmaps.specs.Entries.{entry_target, map_in, stated_faults as map_faults, targets_of, with_target, word_mask}
use Rattle.kx_modmaps.specs.Maps.{map_moves, map_offers, map_offers_of, map_rules, offers_to}
use Rattle.kx_modmaps.specs.declared.target.Target.{Target}
use Rattle.kx_modmaps.specs.declared.target.Target.TheVariants.{Key as KeyTarget}
use Rattle.kx_mods.specs.declared.mods.Mods.{Mods}
use Rattle.kx_tree.specs.declared.tree.Entry.{Entry as MapEntry}
use Rattle.kx_tree.specs.declared.tree.Entry.TheVariants.{KeyName, Symbol}
use Rattle.kx_tree.specs.declared.tree.Kind.TheVariants.{Compat, Keycodes, Symbols, Types}
use Rattle.kx_tree.specs.declared.tree.KeyField.{KeyField}
use Rattle.kx_tree.specs.declared.tree.Mode.{Mode}
use Rattle.kx_source.specs.Meaning.{codes_in, codes_of, declared_in, declared_masks_of, interpretations_in, key_given, key_in, mapping_by, modifier_bodies_of, modifiers_of, modmap_in, read_keymap_in, typing_in}
use Rattle.kx_clients.specs.Made.{told_faults}
use Rattle.kx_source.specs.Source.{keys_faults, maps_faults}
use Rattle.kx_symbols.specs.KeyFaults.{key_in as key_said, stated_faults}
use Rattle.kx_symbols.specs.Keys.{KeyContent, KeysShow, field_in, key_at, key_moves, key_rules, known_under, offered, said_next, said_offers}
use Rattle.kx_symbols.specs.Known.{Defaults, Known, no_defaults}
use Rattle.kx_symbols.specs.declared.cells.Cell.{Cell}
use Rattle.kx_symbols.specs.declared.cells.CellValue.{CellValue}
use Rattle.kx_types.specs.Types.{NamedTypes, TypesShow, declared_names, declared_type, names_in, type_named}
use Rattle.kx_keys.specs.Given.{KeyGiven, given_by, given_in}
use Rattle.kx_keys.specs.Typing.{typing_by}

any_same : (n : ℕ) (f g : ℕ → Bool) → ((k : ℕ) → k < n → f k ≡ g k) → any_below n f ≡ any_below n g
unfolding any_below
any_same zero f g same = refl
any_same (suc n) f g same = λ i. any_same n f g (λ k less. same k (lt_trans less (lt-suc_self n))) i || same n (lt-suc_self n) i

-- ---- Codes

module _ (c : Codes) (body : Body) (shows : CodesShow c body) where
  -- the code of a name is that of the body's pairs and aliases
  code_same : (name : List ℕ) → code_of c name ≡ code_of (codes_of body) name
  code_same name = λ i. option_or (shows.codes_are name i) (option_and_then (λ target. shows.codes_are target i) (alias_same c body shows name i))

  pub names_same : name_of c ≡ name_of (codes_of body)
  names_same = fun_ext shows.names_are

  -- the aliases of keys are those of the body's pairs
  alias_known_same : (name : List ℕ) → known_alias c name ≡ known_alias (codes_of body) name
  alias_known_same name = λ i. option_map_or (λ (key : List ℕ). let known : Alias = record { name = name; key = key } in known ∷ []) (option_and_then (λ (key : List ℕ). if bytes_eq name key then None else Some key) (option_and_then (names_same i) (code_same name i))) []

  pub aliases_same : known_aliases c body ≡ known_aliases (codes_of body) body
  aliases_same = ap (λ f. flat_map f (names_of bytes_eq (alias_offers body))) (fun_ext alias_known_same)

  module _ (names : KeysymTable) (modifiers : List (List ℕ)) where
    said_same : (known : Known) (mode : Mode) (key : Option (Name × List KeyField)) → said_offers c known mode key ≡ said_offers (codes_of body) known mode key
    said_same known mode None = refl
    said_same known mode (Some key) = ap (offered known key.1 mode) (code_same key.0.bytes)

    pub rules_same : key_rules c names modifiers ≡ key_rules (codes_of body) names modifiers
    rules_same = λ i. record {
      start = no_defaults;
      next = λ d stated. said_next modifiers d (field_in stated.statement);
      offers = λ d place stated. said_same (known_under c names modifiers d) stated.mode (key_said stated.statement) i;
      faults = λ d place stated. stated_faults place.file (known_under c names modifiers d) stated;
    }

    -- ---- Repeating

    repeats_same : (d : Option KeyRepeat) (mode : Mode) (key : Option (Name × List KeyField)) → repeat_offers c d mode key ≡ repeat_offers (codes_of body) d mode key
    repeats_same d mode None = refl
    repeats_same d mode (Some key) = ap (offers_for (λ said (cell : Unit {0}). said) mode (last_given field_repeat d key.1)) (code_same key.0.bytes)

    pub repeat_rules_same : repeat_rules c ≡ repeat_rules (codes_of body)
    repeat_rules_same = λ i. record {
      start = None;
      next = λ d stated. next_default d stated.statement;
      offers = λ d place stated. repeats_same d stated.mode (key_said stated.statement) i;
      faults = λ d place stated. [];
    }

    -- ---- Modifier maps

    target_same : (entry : MapEntry) → entry_target c names entry ≡ entry_target (codes_of body) names entry
    target_same (KeyName name) = ap (option_map (λ code. KeyTarget code)) (code_same name.bytes)
    target_same (Symbol symbol) = refl

    targets_same : (entries : List MapEntry) → targets_of c names entries ≡ targets_of (codes_of body) names entries
    targets_same entries = ap (λ target. fold (λ (targets : List Target) (entry : MapEntry). with_target targets (target entry)) [] entries) (fun_ext target_same)

    map_same : (mode : Mode) (map : Option (Name × List MapEntry)) → map_offers c names mode map ≡ map_offers (codes_of body) names mode map
    map_same mode None = refl
    map_same mode (Some map) = ap (offers_to mode (word_mask map.0.bytes)) (targets_same map.1)

    pub map_rules_same : map_rules c names modifiers ≡ map_rules (codes_of body) names modifiers
    map_rules_same = λ i. record {
      start = tt;
      next = λ d stated. tt;
      offers = λ d place stated. map_same stated.mode (map_in stated.statement) i;
      faults = λ d place stated. map_faults place.file modifiers stated;
    }

-- ---- What is read

module _ (library : Library) (bodies : Bodies) (are : AreBodies library bodies) where
  pub bodies_same : modifier_bodies bodies ≡ modifier_bodies_of library
  bodies_same = λ i. are.types i ∷ are.compat i ∷ are.symbols i ∷ []

  module _ (m : ModNames) (shows : AreModNames m (modifier_bodies bodies)) where
    pub modifiers_same : m.names ≡ modifiers_of library
    modifiers_same = shows.names_are ∙ ap virtual_names bodies_same

    masks_same : (n real : ℕ) → n < 24 → stands_for m.masks n real ≡ declared_masks_of library n real
    masks_same n real less = ap (λ k. has k real) (shows.masks_are n less ∙ (λ i. declared_mask (modifiers_same i) (bodies_same i) n))

    module _ (types : NamedTypes) (types_show : TypesShow types m.names (expanded_body bodies.types)) where
      pub declared_same : type_named types ≡ declared_in library
      declared_same = fun_ext (λ name. types_show.definitions_are name ∙ (λ i. declared_type (modifiers_same i) (are.types i) name))

      -- the types that are named are the library's
      types_same : (real : ℕ → RealSet) → flat_map (defined_type real (type_named types)) (names_in types) ≡ declared_types real (modifiers_of library) (body_of library Types)
      types_same real =
          ap (λ definition. flat_map (defined_type real definition) (names_in types)) declared_same
          ∙ ap (flat_map (defined_type real (declared_in library))) (types_show.names_are ∙ (λ i. declared_names (modifiers_same i) (are.types i)))

      -- ---- Keys, and all together

      module _ (c : Codes) (codes_show : CodesShow c (body_of library Keycodes)) (names : KeysymTable) where
        typing_same : typing_by types names.letters ≡ typing_in names library
        typing_same = λ i. record { declared = declared_same i; letters = names.letters }

        keys_faults_same : keys_faults c names m.names (expanded_body bodies.symbols) ≡ keys_faults (codes_in library) names (modifiers_of library) (body_of library Symbols)
        keys_faults_same =
            (λ i. keys_faults c names (modifiers_same i) (are.symbols i))
            ∙ ap (λ rules. faults_of nat_eq rules key_moves (body_of library Symbols)) (rules_same c (body_of library Keycodes) codes_show names (modifiers_of library))

        maps_faults_same : maps_faults c names m.names (expanded_body bodies.symbols) ≡ maps_faults (codes_in library) names (modifiers_of library) (body_of library Symbols)
        maps_faults_same =
            (λ i. maps_faults c names (modifiers_same i) (are.symbols i))
            ∙ ap (λ rules. faults_of same_target rules map_moves (body_of library Symbols)) (map_rules_same c (body_of library Keycodes) codes_show names (modifiers_of library))

        pub told_faults_same : told_faults c names m.names (expanded_body bodies.compat) (expanded_body bodies.symbols) ≡ told_faults (codes_in library) names (modifiers_of library) (body_of library Compat) (body_of library Symbols)
        told_faults_same = λ i. (keys_faults_same i ++ maps_faults_same i) ++ compat_faults names (modifiers_same i) (are.compat i)

        maps_same : map_offers_of c names m.names (expanded_body bodies.symbols) ≡ map_offers_of (codes_in library) names (modifiers_of library) (body_of library Symbols)
        maps_same =
            (λ i. map_offers_of c names (modifiers_same i) (are.symbols i))
            ∙ ap (λ rules. offers_of same_target rules map_moves (body_of library Symbols)) (map_rules_same c (body_of library Keycodes) codes_show names (modifiers_of library))

        said_repeat_same : (code : ℕ) → said_repeat c (expanded_body bodies.symbols) code ≡ said_repeat (codes_in library) (body_of library Symbols) code
        said_repeat_same code =
            (λ i. said_repeat c (are.symbols i) code)
            ∙ ap (λ rules. value_of nat_eq (offers_of nat_eq rules no_moves (body_of library Symbols)) code tt) (repeat_rules_same c (body_of library Keycodes) codes_show names (modifiers_of library))

        module _ (keys : List (ℕ × KeyContent)) (keys_show : KeysShow keys c names m.names (expanded_body bodies.symbols)) where
          given_same : (λ (code : ℕ). given_in (key_at keys code)) ≡ key_given c names m.names (expanded_body bodies.symbols)
          given_same = λ i. λ code. given_by (λ cell. keys_show.cells_are code cell i) (λ group. keys_show.widths_are code group i)

          by_rules : Rules ℕ Cell CellValue Defaults → ℕ → KeyGiven
          by_rules rules code = given_by (value_of nat_eq (offers_of nat_eq rules key_moves (body_of library Symbols)) code) (width_of nat_eq (offers_of nat_eq rules key_moves (body_of library Symbols)) code)

          keys_same : (λ (code : ℕ). given_in (key_at keys code)) ≡ key_in names library
          unfolding by_rules
          keys_same = given_same ∙ (λ i. key_given c names (modifiers_same i) (are.symbols i)) ∙ ap by_rules (rules_same c (body_of library Keycodes) codes_show names (modifiers_of library))

          module _ (modmaps : ℕ → Mods) (mapped : (code : ℕ) → modmaps code ≡ modmap_of (mapping_by (name_of c) (λ k. given_in (key_at keys k)) (typing_by types names.letters) (map_offers_of c names m.names (expanded_body bodies.symbols))) code) where
            pub modmaps_same : modmaps ≡ modmap_in names library
            modmaps_same = fun_ext mapped ∙ (λ i. modmap_of (mapping_by (names_same c (body_of library Keycodes) codes_show i) (keys_same i) (typing_same i) (maps_same i)))

            module _ (interpretations : List Interpretation) (interpreted : interpretations ≡ interpretations_of names m.names (expanded_body bodies.compat)) where
              interpretations_same : interpretations ≡ interpretations_in names library
              interpretations_same = interpreted ∙ (λ i. interpretations_of names (modifiers_same i) (are.compat i))

              -- as it is read, but for the masks that are declared
              abbrev read_with : (ℕ → RealSet) → ReadKeymap
              read_with masks = record {
                name = name_of c;
                key = λ code. given_in (key_at keys code);
                modmap = modmaps;
                typing = typing_by types names.letters;
                interpretations = interpretations;
                masks = masks;
              }

              read_same : read_with (declared_masks_of library) ≡ read_keymap_in names library
              read_same = λ i. record {
                name = names_same c (body_of library Keycodes) codes_show i;
                key = keys_same i;
                modmap = modmaps_same i;
                typing = typing_same i;
                interpretations = interpretations_same i;
                masks = declared_masks_of library;
              }

              stands_same : (n real : ℕ) → n < 24 → stands (read_keymap_of c (typing_by types names.letters) keys modmaps interpretations m.masks) n real ≡ stands (read_keymap_in names library) n real
              stands_same n real less =
                  ap (λ b. b || any_below 4096 (brings (read_with (declared_masks_of library)) n real)) (masks_same n real less)
                  ∙ ap (λ r. stands r n real) read_same

        -- what is told is what the source leaves out
        pub left_out_are : (left : LeftOut) → left.aliases ≡ known_aliases c (expanded_body bodies.keycodes) → AreIndicatorNames left.indicators (expanded_body bodies.keycodes) → AreOfKeys names m (expanded_body bodies.compat) (expanded_body bodies.symbols) c types left.modifiers left.repeating → left.types ≡ flat_map (defined_type (real_of (mods_among left.modifiers)) (type_named types)) (names_in types) → AreLeftOut names library left
        left_out_are left aliases indicators told rows = record {
          aliases_are = aliases ∙ ap (known_aliases c) are.keycodes ∙ aliases_same c (body_of library Keycodes) codes_show;
          indicators_are = subst (AreIndicatorNames left.indicators) are.keycodes indicators;
          modifiers_are = record {
            names_are = told.stand.names_are ∙ modifiers_same;
            mods_are = λ number real less.
                let within : number < length m.names = subst (λ ns. number < length ns) (sym modifiers_same) less in
                let few : number < 24 = omega (arith, within, shows.few) in
                told.stand.mods_are number real few within ∙ stands_same told.keys told.keys_show told.modmaps told.mapped told.interpretations told.interpreted number real few;
          };
          types_are = rows ∙ types_same (real_of (mods_among left.modifiers));
          few_codes = told.few_codes;
          repeats_are = λ code less. told.repeat code less ∙ (λ i. key_repeats
              (match_repeats names (modifiers_same i) (are.compat i))
              (interpretations_same told.keys told.keys_show told.modmaps told.mapped told.interpretations told.interpreted i)
              (names_same c (body_of library Keycodes) codes_show i code)
              (said_repeat_same code i)
              (modmaps_same told.keys told.keys_show told.modmaps told.mapped i code)
              (keys_same told.keys told.keys_show i code));
        }

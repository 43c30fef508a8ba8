-- The keymap that the statements of a keymap's text mean, with the files that it includes.
use Rattle.std.specs.Prelude.{ℕ, max, suc, List, [], ◌∷◌, Option, is_some, nat_eq}
use Rattle.std.specs.Option.{option_map_or}
use Rattle.ks_core.specs.Table.{KeysymTable}
use Rattle.kx_basics.specs.declared.limits.TheConstants.{CODES}
use Rattle.kx_keys.specs.Vmodmap.{ReadKeymap, stands}
use Rattle.kx_keys.specs.LevelActions.{level_actions_of}
use Rattle.kx_builder.specs.IndicatorMaps.{ResolvedIndicator}
use Rattle.kx_builder.specs.Resolved.{Resolved}
use Rattle.kx_compat.specs.Interpretations.{Interpretation}
use Rattle.kx_codes.specs.Aliases.{aliases_of}
use Rattle.kx_codes.specs.Codes.{Codes, name_of}
use Rattle.kx_codes.specs.Pairs.{pairs_of}
use Rattle.kx_compat.specs.Meaning.{interpretations_of}
use Rattle.kx_include.specs.Expansion.{Body, body_of}
use Rattle.kx_include.specs.Library.{Library}
use Rattle.kx_indicators.specs.IndicatorMaps.{IndicatorMap}
use Rattle.kx_indicators.specs.Meaning.{Indicators, indicator_names, indicator_map_of}
use Rattle.kx_keys.specs.Rows.{set_mask}
use Rattle.kx_keys.specs.Selecting.{RealSet}
use Rattle.kx_keys.specs.Mapping.{Mapping, modmap_of}
use Rattle.kx_virtual_mods.specs.Declarations.{declared_mask, virtual_names}
use Rattle.kx_virtual_mods.specs.Sets.{has, real_of}
use Rattle.kx_merge.specs.Bodies.{offers_of}
use Rattle.kx_merge.specs.Offers.{Offer, value_of, width_of}
use Rattle.kx_modmaps.specs.Entries.{same_target}
use Rattle.kx_modmaps.specs.Maps.{keysyms_given, map_offers_of}
use Rattle.kx_modmaps.specs.declared.record.Cell.{Cell as MapCell}
use Rattle.kx_modmaps.specs.declared.record.Cell.TheVariants.{Present}
use Rattle.kx_modmaps.specs.declared.target.Target.{Target}
use Rattle.kx_modmaps.specs.declared.target.Target.TheVariants.{Key as KeyTarget}
use Rattle.kx_mods.specs.declared.mods.Mods.{Mods}
use Rattle.kx_tree.specs.declared.tree.Kind.TheVariants.{Compat, Keycodes, Symbols, Types}
use Rattle.kx_keys.specs.Keys.{Keyed, resolved_of}
use Rattle.kx_resolve.specs.Lit.{indicators_of}
use Rattle.kx_resolve.specs.Shown.{most_groups_below, name_within, shown_for}
use Rattle.kx_symbols.specs.Keys.{key_moves, key_rules}
use Rattle.kx_symbols.specs.declared.cells.Cell.{Cell}
use Rattle.kx_symbols.specs.declared.cells.CellValue.{CellValue}
use Rattle.kx_tables.specs.Keymap.{Keymap, IndicatorMap as LitIndicatorMap, nothing_shown}
use Rattle.kx_types.specs.KeyTypes.{Definition}
use Rattle.kx_types.specs.Types.{declared_type}
use Rattle.kx_keys.specs.Given.{KeyGiven, given_by}
use Rattle.kx_keys.specs.Typing.{Typing}

-- the bodies that declare virtual modifiers, in the order in which these are numbered
abbrev pub modifier_bodies_of : Library → List Body
modifier_bodies_of library = body_of library Types ∷ body_of library Compat ∷ body_of library Symbols ∷ []

-- the virtual modifiers by number
abbrev pub modifiers_of : Library → List (List ℕ)
modifiers_of library = virtual_names (modifier_bodies_of library)

abbrev pub declared_in : Library → List ℕ → Option Definition
declared_in library = declared_type (modifiers_of library) (body_of library Types)

-- the pairs and the aliases that the keycodes sections leave at their end
abbrev pub codes_in : Library → Codes
codes_in library = record { by_name = pairs_of (body_of library Keycodes); by_code = pairs_of (body_of library Keycodes); aliases = aliases_of (body_of library Keycodes) }

-- what the statements of a symbols body offer the keys that have these codes; `modifiers` are the virtual modifiers
abbrev pub key_offers : Codes → KeysymTable → List (List ℕ) → Body → List (Offer ℕ Cell CellValue)
key_offers codes names modifiers body = offers_of nat_eq (key_rules codes names modifiers) key_moves body

-- what a key is given is what its statements give it by precedence
abbrev pub key_given : Codes → KeysymTable → List (List ℕ) → Body → ℕ → KeyGiven
key_given codes names modifiers body code = given_by (value_of nat_eq (key_offers codes names modifiers body) code) (width_of nat_eq (key_offers codes names modifiers body) code)

-- what is read to find what keys are mapped to: keys, what tells their types, and what modifier maps offer, by precedence
abbrev pub mapping_by : (ℕ → Option (List ℕ)) → (ℕ → KeyGiven) → Typing → List (Offer Target MapCell ℕ) → Mapping
mapping_by name key typing offers = record {
  name = name;
  key = key;
  typing = typing;
  key_maps = λ code real. is_some (value_of same_target offers (KeyTarget code) (Present real));
  keysym_maps = keysyms_given offers;
}

-- `names` are the names and the letters of keysyms
module _ (names : KeysymTable) (library : Library) where
  abbrev pub typing_in : Typing
  typing_in = record { declared = declared_in library; letters = names.letters }

  abbrev pub key_in : ℕ → KeyGiven
  key_in = key_given (codes_in library) names (modifiers_of library) (body_of library Symbols)

  abbrev pub modmap_in : ℕ → Mods
  modmap_in = modmap_of (mapping_by (name_of (codes_in library)) key_in typing_in (map_offers_of (codes_in library) names (modifiers_of library) (body_of library Symbols)))

  abbrev pub interpretations_in : List Interpretation
  interpretations_in = interpretations_of names (modifiers_of library) (body_of library Compat)

  abbrev pub read_keymap_in : ReadKeymap
  read_keymap_in = record {
    name = name_of (codes_in library);
    key = key_in;
    modmap = modmap_in;
    typing = typing_in;
    interpretations = interpretations_in;
    masks = λ number. has (declared_mask (modifiers_of library) (modifier_bodies_of library) number);
  }

  -- the real modifiers that a set of modifiers stands for
  abbrev pub real_in : ℕ → RealSet
  real_in = real_of (stands read_keymap_in)

-- what each of some indicators has, of which the first has this number
abbrev pub indicator_maps_from : {X : Type 0} → (ℕ → X) → ℕ → List (List ℕ) → List X
indicator_maps_from indicator_map number [] = []
indicator_maps_from indicator_map number (name ∷ names) = indicator_map number ∷ indicator_maps_from indicator_map (suc number) names

-- what lights an indicator, where each modifier stands for real ones
abbrev pub lit_by : (ℕ → RealSet) → IndicatorMap → LitIndicatorMap
lit_by real indicator_map = record { mods = set_mask (real indicator_map.modifiers); mod_states = indicator_map.mod_states; group_states = indicator_map.group_states; groups = indicator_map.groups }

-- the keymap of what is read
abbrev pub keymap_by : (ℕ → RealSet) → ReadKeymap → List LitIndicatorMap → Keymap
keymap_by real r indicator_maps = record {
  groups = max 1 (most_groups_below r.name r.key CODES);
  known = λ code. is_some (name_within r.name code);
  shown = λ code group mods. option_map_or (λ _. shown_for real r.typing (level_actions_of real r.interpretations (r.modmap code) (r.key code)) (r.key code) group mods) (name_within r.name code) nothing_shown;
  indicator_maps = indicator_maps;
}

abbrev pub keymap_in : KeysymTable → Library → Keymap
keymap_in names library = keymap_by (real_in names library) (read_keymap_in names library) (indicator_maps_from (λ number. lit_by (real_in names library) (indicator_map_of (modifiers_of library) (body_of library Compat) number)) 0 (indicator_names (body_of library Compat)))

-- ---- What tables hold

abbrev pub keyed_in : KeysymTable → Library → Keyed
keyed_in names library = record {
  name = name_of (codes_in library);
  key = key_in names library;
  modmap = modmap_in names library;
  level_actions = λ code. level_actions_of (real_in names library) (interpretations_in names library) (modmap_in names library code) (key_in names library code);
}

abbrev pub indicators_by : List (List ℕ) → Body → Indicators
indicators_by modifiers body = record { names = indicator_names body; indicator_maps = indicator_maps_from (indicator_map_of modifiers body) 0 (indicator_names body) }

abbrev pub indicators_in : KeysymTable → Library → List ResolvedIndicator
indicators_in names library = indicators_of (real_in names library) (indicators_by (modifiers_of library) (body_of library Compat))

-- of types and keys
abbrev pub resolved_in : KeysymTable → Library → Resolved
resolved_in names library = resolved_of (real_in names library) (typing_in names library) (keyed_in names library)

-- ---- Under names, for clauses and proofs

abbrev pub codes_of : Body → Codes
codes_of body = record { by_name = pairs_of body; by_code = pairs_of body; aliases = aliases_of body }

abbrev pub declared_masks_of : Library → ℕ → RealSet
declared_masks_of library number = has (declared_mask (modifiers_of library) (modifier_bodies_of library) number)

-- That tables are made of what is read of a source's bodies, step by step.
use Rattle.std.specs.Prelude.{ℕ, ◌≡◌, ◌<◌, List, ◌++◌}
use Rattle.ks_core.specs.Table.{KeysymTable}
use Rattle.kx_keys.specs.Vmodmap.{stands}
use Rattle.kx_resolve.specs.ReadVmodmap.{read_keymap_of}
use Rattle.kx_builder.specs.Agreement.{ShowsSame}
use Rattle.kx_builder.specs.IndicatorMaps.{keymap_with, with_indicator_maps}
use Rattle.kx_builder.specs.Placed.{content_of_resolved}
use Rattle.kx_compat.specs.Interpretations.{Interpretation}
use Rattle.kx_codes.specs.Codes.{Codes, name_of}
use Rattle.kx_compat.specs.Meaning.{interpretations_of, compat_faults}
use Rattle.kx_group_names.specs.Names.{AreGroupNames}
use Rattle.kx_include.specs.Expansion.{Body}
use Rattle.kx_indicators.specs.Meaning.{AreIndicators, Indicators, indicator_maps_faults}
use Rattle.kx_keys.specs.Selecting.{RealSet}
use Rattle.kx_keys.specs.Mapping.{modmap_of}
use Rattle.kx_virtual_mods.specs.Declarations.{ModNames}
use Rattle.kx_virtual_mods.specs.Sets.{real_of}
use Rattle.kx_virtual_mods.specs.Standing.{stands_for}
use Rattle.kx_virtual_mods.specs.declared.limits.TheConstants.{MOST_VIRTUAL_MODIFIERS}
use Rattle.kx_modmaps.specs.Maps.{map_offers_of}
use Rattle.kx_mods.specs.declared.mods.Mods.{Mods}
use Rattle.kx_keys.specs.Keys.{Keyed, keyed_of, resolved_of}
use Rattle.kx_resolve.specs.Lit.{indicators_of}
use Rattle.kx_resolve.specs.Shown.{keymap_meant}
use Rattle.kx_source.specs.Meaning.{mapping_by}
use Rattle.kx_symbols.specs.Keys.{KeyContent, KeysShow, key_at}
use Rattle.kx_tables.specs.Content.{Content}
use Rattle.kx_tables.specs.Keymap.{keymap_of}
use Rattle.kx_types.specs.Types.{NamedTypes}
use Rattle.kx_keys.specs.Given.{given_in}
use Rattle.kx_keys.specs.Typing.{Typing, typing_by}
use Rattle.kx_lex.specs.declared.fault.Fault.{Fault}
use Rattle.kx_source.specs.Source.{keys_faults, maps_faults, names_faults}

-- of types and keys, with the indicators and the names of groups that bodies have; `real` is what a set of modifiers stands for,
-- `modifiers` are the virtual ones
pub record IsLit (modifiers : List (List ℕ)) (compat symbols : Body) (real : ℕ → RealSet) (typing : Typing) (keyed : Keyed) (content : Content) : Type 0 where
  pub groups : List (List ℕ)
  pub groups_are : AreGroupNames groups symbols
  pub indicator_maps : Indicators
  pub indicator_maps_are : AreIndicators indicator_maps modifiers compat
  pub holds : content ≡ with_indicator_maps (content_of_resolved (resolved_of real typing keyed)) (indicators_of real indicator_maps) groups
  pub agrees : ShowsSame (keymap_of content) (keymap_with (keymap_meant real typing keyed) (indicators_of real indicator_maps))

-- of types and keys, which are mapped to these modifiers, with the interpretations that a compat body has
pub record IsInterpreted (names : KeysymTable) (m : ModNames) (compat symbols : Body) (c : Codes) (types : NamedTypes) (keys : List (ℕ × KeyContent)) (modmaps : ℕ → Mods) (content : Content) : Type 0 where
  pub interpretations : List Interpretation
  pub interpreted : interpretations ≡ interpretations_of names m.names compat
  -- what virtual modifiers stand for
  pub found : List Mods
  pub stand : (number real : ℕ) → number < MOST_VIRTUAL_MODIFIERS → stands_for found number real ≡ stands (read_keymap_of c (typing_by types names.letters) keys modmaps interpretations m.masks) number real
  pub lit : IsLit m.names compat symbols (real_of (stands_for found)) (typing_by types names.letters) (keyed_of (real_of (stands_for found)) c keys modmaps interpretations) content

-- of types, with the keys and the modifier maps that a symbols body has
pub record IsMade (names : KeysymTable) (m : ModNames) (compat symbols : Body) (c : Codes) (types : NamedTypes) (content : Content) : Type 0 where
  pub keys : List (ℕ × KeyContent)
  pub keys_show : KeysShow keys c names m.names symbols
  pub modmaps : ℕ → Mods
  pub mapped : (code : ℕ) → modmaps code ≡ modmap_of (mapping_by (name_of c) (λ k. given_in (key_at keys k)) (typing_by types names.letters) (map_offers_of c names m.names symbols)) code
  pub interpreted : IsInterpreted names m compat symbols c types keys modmaps content

-- ---- Faults of these parts

-- of keys and modifier maps
abbrev pub mapped_faults : Codes → KeysymTable → List (List ℕ) → Body → List Fault
mapped_faults codes names modifiers symbols = keys_faults codes names modifiers symbols ++ maps_faults codes names modifiers symbols

-- of names of groups and indicators
abbrev pub lit_faults : List (List ℕ) → (compat symbols : Body) → List Fault
lit_faults modifiers compat symbols = names_faults symbols ++ indicator_maps_faults modifiers compat

-- of these and interpretations
abbrev pub interpreted_faults : KeysymTable → List (List ℕ) → (compat symbols : Body) → List Fault
interpreted_faults names modifiers compat symbols = compat_faults names modifiers compat ++ lit_faults modifiers compat symbols

-- of all that stands after keycodes and types
abbrev pub parts_faults : Codes → KeysymTable → List (List ℕ) → (compat symbols : Body) → List Fault
parts_faults codes names modifiers compat symbols = mapped_faults codes names modifiers symbols ++ interpreted_faults names modifiers compat symbols

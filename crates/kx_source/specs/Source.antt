-- What a source means, and its faults.
use Rattle.std.specs.Prelude.{ℕ, ◌≡◌, ◌⊎◌, List, [], ◌++◌, Contains, nat_eq}
use Rattle.ks_core.specs.Table.{KeysymTable}
use Rattle.kx_builder.specs.IndicatorMaps.{with_indicator_maps}
use Rattle.kx_builder.specs.Placed.{content_of_resolved}
use Rattle.kx_codes.specs.CodeFaults.{faults_of as keycodes_faults}
use Rattle.kx_codes.specs.Codes.{Codes}
use Rattle.kx_compat.specs.Meaning.{compat_faults}
use Rattle.kx_group_names.specs.Names.{AreGroupNames, name_moves, name_rules}
use Rattle.kx_include.specs.Expansion.{Body, body_of}
use Rattle.kx_include.specs.IncludeFaults.{IsWhole, HasIncludeFault}
use Rattle.kx_include.specs.Library.{Library}
use Rattle.kx_include.specs.Source.{Handed, HasNoTree, HasTooManyFiles, IsRead}
use Rattle.kx_indicators.specs.Meaning.{indicator_maps_faults}
use Rattle.kx_lex.specs.declared.fault.Fault.{Fault}
use Rattle.kx_virtual_mods.specs.Declarations.{modifier_faults}
use Rattle.kx_merge.specs.Bodies.{faults_of, no_moves}
use Rattle.kx_modmaps.specs.Entries.{same_target}
use Rattle.kx_modmaps.specs.Maps.{map_rules}
use Rattle.kx_tree.specs.declared.tree.Kind.TheVariants.{Compat, Keycodes, Symbols, Types}
use Rattle.kx_source.specs.Meaning.{codes_in, indicators_in, keymap_in, modifier_bodies_of, modifiers_of, resolved_in}
use Rattle.kx_symbols.specs.Keys.{key_moves, key_rules}
use Rattle.kx_tables.specs.Content.{Content}
use Rattle.kx_tables.specs.Keymap.{keymap_of}
use Rattle.kx_types.specs.Types.{types_faults}

-- ---- Faults

-- of declared modifiers, keycodes, types, keys, modifier maps, interpretations, names of groups and indicators, in the source and what it includes
abbrev pub statement_faults : KeysymTable → Library → List Fault
statement_faults names library =
    modifier_faults (modifier_bodies_of library)
    ++ (keycodes_faults (body_of library Keycodes)
    ++ (types_faults (modifiers_of library) (body_of library Types)
    ++ ((faults_of nat_eq (key_rules (codes_in library) names (modifiers_of library)) key_moves (body_of library Symbols)
    ++ faults_of same_target (map_rules (codes_in library) names (modifiers_of library)) no_moves (body_of library Symbols))
    ++ (compat_faults names (modifiers_of library) (body_of library Compat)
    ++ (faults_of nat_eq name_rules name_moves (body_of library Symbols)
    ++ indicator_maps_faults (modifiers_of library) (body_of library Compat))))))

-- of an include; or of a statement, where each include names a map, since only then the bodies have all that is included
abbrev pub HasFaultIn : KeysymTable → Library → Fault → Type 0
HasFaultIn names library e = HasIncludeFault library e ⊎ (IsWhole library × Contains (statement_faults names library) e)

pub record HasFaultInside (source : List ℕ) (files : Handed) (names : KeysymTable) (e : Fault) : Type 0 where
  pub library : Library
  pub read : IsRead source files library
  pub has : HasFaultIn names library e

abbrev pub HasFault : List ℕ → Handed → KeysymTable → Fault → Type 0
HasFault source files names e = HasNoTree source e ⊎ (HasTooManyFiles source files e ⊎ HasFaultInside source files names e)

-- ---- Meaning

-- tables hold the key types and the keys, with their names, that the statements resolve to, the indicators and the names of groups, and
-- nothing else
pub record HoldsAll (names : KeysymTable) (library : Library) (content : Content) : Type 0 where
  pub groups : List (List ℕ)
  pub groups_are : AreGroupNames groups (body_of library Symbols)
  pub content_is : content ≡ with_indicator_maps (content_of_resolved (resolved_in names library)) (indicators_in names library) groups

-- a source without a fault means tables and their keymap
pub record Means (source : List ℕ) (files : Handed) (names : KeysymTable) (content : Content) : Type 0 where
  pub library : Library
  pub read : IsRead source files library
  pub whole : IsWhole library
  pub faultless : statement_faults names library ≡ []
  pub holds : HoldsAll names library content
  -- the tables show the keymap
  pub keymap : keymap_of content ≡ keymap_in names library

-- ---- Under names, for clauses and proofs

abbrev pub names_faults : Body → List Fault
names_faults body = faults_of nat_eq name_rules name_moves body

abbrev pub maps_faults : Codes → KeysymTable → List (List ℕ) → Body → List Fault
maps_faults codes names modifiers body = faults_of same_target (map_rules codes names modifiers) no_moves body

abbrev pub keys_faults : Codes → KeysymTable → List (List ℕ) → Body → List Fault
keys_faults codes names modifiers body = faults_of nat_eq (key_rules codes names modifiers) key_moves body

-- That what clients are told of keys is made of what bodies say, step by step.
use Rattle.std.specs.Prelude.{ℕ, ◌≡◌, ◌<◌, ◌≤◌, ◌++◌, Bool, List, false, get_or, length}
use Rattle.ks_core.specs.Table.{KeysymTable}
use Rattle.kx_basics.specs.declared.limits.TheConstants.{CODES}
use Rattle.kx_codes.specs.Codes.{Codes, name_of}
use Rattle.kx_compat.specs.Interpretations.{Interpretation}
use Rattle.kx_compat.specs.Meaning.{compat_faults, interpretations_of}
use Rattle.kx_include.specs.Expansion.{Body}
use Rattle.kx_lex.specs.declared.fault.Fault.{Fault}
use Rattle.kx_modmaps.specs.Maps.{map_offers_of}
use Rattle.kx_mods.specs.declared.mods.Mods.{Mods}
use Rattle.kx_keys.specs.Given.{given_in}
use Rattle.kx_keys.specs.Mapping.{modmap_of}
use Rattle.kx_resolve.specs.ReadVmodmap.{read_keymap_of}
use Rattle.kx_keys.specs.Typing.{typing_by}
use Rattle.kx_keys.specs.Vmodmap.{stands}
use Rattle.kx_source.specs.Made.{mapped_faults}
use Rattle.kx_source.specs.Meaning.{mapping_by}
use Rattle.kx_symbols.specs.Keys.{KeyContent, KeysShow, key_at}
use Rattle.kx_types.specs.Types.{NamedTypes}
use Rattle.kx_virtual_mods.specs.Declarations.{ModNames}
use Rattle.kx_virtual_mods.specs.declared.limits.TheConstants.{MOST_VIRTUAL_MODIFIERS}
use Rattle.kx_clients.specs.InterpretationRepeats.{match_repeats}
use Rattle.kx_clients.specs.KeyRepeats.{said_repeat}
use Rattle.kx_clients.specs.Repeats.{key_repeats}
use Rattle.kx_clients.specs.VirtualModifiers.{mods_among, names_among}
use Rattle.kx_clients.specs.declared.virtual_modifier.VirtualModifier.{VirtualModifier}

module _ (names : KeysymTable) (m : ModNames) (compat symbols : Body) (c : Codes) (types : NamedTypes) (keys : List (ℕ × KeyContent)) (modmaps : ℕ → Mods) (interpretations : List Interpretation) where
  -- virtual modifiers stand for what the keys are mapped to that bear them
  pub record Stand (modifiers : List VirtualModifier) : Type 0 where
    pub names_are : names_among modifiers ≡ m.names
    pub mods_are : (number real : ℕ) → number < MOST_VIRTUAL_MODIFIERS → number < length m.names → mods_among modifiers number real ≡ stands (read_keymap_of c (typing_by types names.letters) keys modmaps interpretations m.masks) number real

  -- keys repeat, by code
  abbrev pub Repeat : List Bool → Type 0
  Repeat repeating = (code : ℕ) → code < CODES → get_or repeating code false ≡ key_repeats (match_repeats names m.names compat) interpretations (name_of c code) (said_repeat c symbols code) (modmaps code) (given_in (key_at keys code))

-- of the keys, the modifier maps and the interpretations that bodies have
pub record AreOfKeys (names : KeysymTable) (m : ModNames) (compat symbols : Body) (c : Codes) (types : NamedTypes) (modifiers : List VirtualModifier) (repeating : List Bool) : Type 0 where
  pub keys : List (ℕ × KeyContent)
  pub keys_show : KeysShow keys c names m.names symbols
  pub modmaps : ℕ → Mods
  pub mapped : (code : ℕ) → modmaps code ≡ modmap_of (mapping_by (name_of c) (λ k. given_in (key_at keys k)) (typing_by types names.letters) (map_offers_of c names m.names symbols)) code
  pub interpretations : List Interpretation
  pub interpreted : interpretations ≡ interpretations_of names m.names compat
  pub stand : Stand names m compat symbols c types keys modmaps interpretations modifiers
  pub repeat : Repeat names m compat symbols c types keys modmaps interpretations repeating
  pub few_codes : length repeating ≤ CODES

-- of keys, modifier maps and interpretations
abbrev pub told_faults : Codes → KeysymTable → List (List ℕ) → (compat symbols : Body) → List Fault
told_faults codes names modifiers compat symbols = mapped_faults codes names modifiers symbols ++ compat_faults names modifiers compat

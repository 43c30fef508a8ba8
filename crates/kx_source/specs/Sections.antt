-- What is read of a source's sections, under names for clauses.
use Rattle.std.specs.Prelude.{ℕ, List}
use Rattle.ks_core.specs.Table.{KeysymTable}
use Rattle.kx_codes.specs.Codes.{Codes}
use Rattle.kx_include.specs.Expansion.{Body}
use Rattle.kx_include.specs.Shared.{expanded_body}
use Rattle.kx_lex.specs.declared.fault.Fault.{Fault}
use Rattle.kx_mods.specs.declared.mods.Mods.{Mods}
use Rattle.kx_resolve.specs.NamedKeys.{typing_in}
use Rattle.kx_resolve.specs.Read.{keyed_by}
use Rattle.kx_keys.specs.Selecting.{RealSet}
use Rattle.kx_resolve.specs.declared.read.InterpretedKeys.{InterpretedKeys}
use Rattle.kx_source.specs.Made.{IsInterpreted, IsLit, IsMade, interpreted_faults, lit_faults, mapped_faults, parts_faults}
use Rattle.kx_symbols.specs.Keys.{KeyContent}
use Rattle.kx_tables.specs.Content.{Content}
use Rattle.kx_types.specs.Types.{NamedTypes}
use Rattle.kx_source.specs.declared.sections.Sections.{Sections}

module _ (s : Sections) where
  abbrev pub names_of : KeysymTable
  names_of = s.expanded.names.now

  abbrev pub modifiers_named : List (List ℕ)
  modifiers_named = s.expanded.modifiers.now.names

  abbrev pub compat_of : Body
  compat_of = expanded_body s.expanded.bodies.now.compat

  abbrev pub symbols_of : Body
  symbols_of = expanded_body s.expanded.bodies.now.symbols

  -- tables are made of what is read, step by step
  abbrev pub LitOf : InterpretedKeys → (ℕ → RealSet) → Content → Type 0
  LitOf keys real = IsLit modifiers_named compat_of symbols_of real (typing_in keys.named) (keyed_by keys real)

  abbrev pub InterpretedBy : KeysymTable → Codes → NamedTypes → List (ℕ × KeyContent) → (ℕ → Mods) → Content → Type 0
  InterpretedBy names = IsInterpreted names s.expanded.modifiers.now compat_of symbols_of

  abbrev pub MadeOf : Content → Type 0
  MadeOf = IsMade names_of s.expanded.modifiers.now compat_of symbols_of s.codes.now s.types.now

  -- the faults of these parts
  abbrev pub faults_of_keys : List Fault
  faults_of_keys = mapped_faults s.codes.now names_of modifiers_named symbols_of

  abbrev pub faults_of_lit : List Fault
  faults_of_lit = lit_faults modifiers_named compat_of symbols_of

  abbrev pub faults_of_interpreted : List Fault
  faults_of_interpreted = interpreted_faults names_of modifiers_named compat_of symbols_of

  abbrev pub faults_of_parts : List Fault
  faults_of_parts = parts_faults s.codes.now names_of modifiers_named compat_of symbols_of

-- A refusal of one part of a source is one of the source.
use Rattle.std.proofs.Common.{◌≡◌, ◌⊎◌, List, [], ◌∷◌, ◌++◌, Contains, refl, inl, inr}
use Rattle.std.proofs.lemmas.List.Elements.{All-cons, All-contains, All-nil, Contains-append_cases, Contains-append_left, Contains-append_right}
use Rattle.ks_core.specs.Table.{KeysymTable}
use Rattle.kx_codes.specs.CodeFaults.{faults_of as keycodes_faults}
use Rattle.kx_include.specs.Expansion.{body_of}
use Rattle.kx_include.specs.IncludeFaults.{IsWhole}
use Rattle.kx_include.specs.Library.{Library}
use Rattle.kx_lex.specs.declared.fault.Fault.{Fault}
use Rattle.kx_lex.specs.declared.fault.Fault.TheVariants.{Memory}
use Rattle.kx_virtual_mods.specs.Declarations.{modifier_faults}
use Rattle.kx_tree.specs.declared.tree.Kind.TheVariants.{Compat, Keycodes, Symbols, Types}
use Rattle.kx_source.specs.Meaning.{codes_in, modifier_bodies_of, modifiers_of}
use Rattle.kx_clients.specs.Made.{told_faults}
use Rattle.kx_compat.specs.Meaning.{compat_faults}
use Rattle.kx_source.specs.Made.{lit_faults, mapped_faults, parts_faults}
use Rattle.kx_source.specs.Source.{HasFaultIn, statement_faults}
use Rattle.kx_types.specs.Types.{types_faults}

-- lack of memory, or one of some faults
among : (fs : List Fault) (e : Fault) → Contains (Memory ∷ fs) e → (e ≡ Memory) ⊎ Contains fs e
among fs e has =
    elim (Contains-append_cases (Memory ∷ []) fs e has) [
      | inl memory ↦ inl (All-contains (λ (x : Fault). x ≡ Memory) (Memory ∷ []) e (All-cons (λ (x : Fault). x ≡ Memory) Memory [] refl (All-nil (λ (x : Fault). x ≡ Memory))) memory)
      | inr fault ↦ inr fault
    ]

module _ (names : KeysymTable) (library : Library) where
  abbrev pub of_modifiers : List Fault
  of_modifiers = modifier_faults (modifier_bodies_of library)

  abbrev pub of_keycodes : List Fault
  of_keycodes = keycodes_faults (body_of library Keycodes)

  abbrev pub of_types : List Fault
  of_types = types_faults (modifiers_of library) (body_of library Types)

  -- those of what stands after keycodes and types
  abbrev pub of_parts : List Fault
  of_parts = parts_faults (codes_in library) names (modifiers_of library) (body_of library Compat) (body_of library Symbols)

  -- a fault of one part is one of the source
  has_fault : IsWhole library → (fs : List Fault) (e : Fault) → (Contains fs e → Contains (statement_faults names library) e) → Contains (Memory ∷ fs) e → (e ≡ Memory) ⊎ HasFaultIn names library e
  has_fault whole fs e part has =
      elim (among fs e has) [
        | inl memory ↦ inl memory
        | inr fault ↦ inr (inr (whole, part fault))
      ]

  behind_modifiers : (fs : List Fault) (e : Fault) → Contains fs e → Contains (of_modifiers ++ fs) e
  behind_modifiers fs e has = Contains-append_right of_modifiers fs e has

  behind_keycodes : (fs : List Fault) (e : Fault) → Contains fs e → Contains (of_modifiers ++ (of_keycodes ++ fs)) e
  behind_keycodes fs e has = behind_modifiers (of_keycodes ++ fs) e (Contains-append_right of_keycodes fs e has)

  pub modifiers_refused : IsWhole library → (e : Fault) → Contains (Memory ∷ of_modifiers) e → (e ≡ Memory) ⊎ HasFaultIn names library e
  modifiers_refused whole e has = has_fault whole of_modifiers e (λ fault. Contains-append_left of_modifiers (of_keycodes ++ (of_types ++ of_parts)) e fault) has

  pub keycodes_refused : IsWhole library → (e : Fault) → Contains (Memory ∷ of_keycodes) e → (e ≡ Memory) ⊎ HasFaultIn names library e
  keycodes_refused whole e has = has_fault whole of_keycodes e (λ fault. behind_modifiers (of_keycodes ++ (of_types ++ of_parts)) e (Contains-append_left of_keycodes (of_types ++ of_parts) e fault)) has

  pub types_refused : IsWhole library → (e : Fault) → Contains (Memory ∷ of_types) e → (e ≡ Memory) ⊎ HasFaultIn names library e
  types_refused whole e has = has_fault whole of_types e (λ fault. behind_keycodes (of_types ++ of_parts) e (Contains-append_left of_types of_parts e fault)) has

  abbrev pub of_told : List Fault
  of_told = told_faults (codes_in library) names (modifiers_of library) (body_of library Compat) (body_of library Symbols)

  -- those of keys, modifier maps and interpretations are among those of what stands after keycodes and types
  told_among : (e : Fault) → Contains of_told e → Contains of_parts e
  told_among e has =
      let maps = mapped_faults (codes_in library) names (modifiers_of library) (body_of library Symbols) in
      let compat = compat_faults names (modifiers_of library) (body_of library Compat) in
      let lit = lit_faults (modifiers_of library) (body_of library Compat) (body_of library Symbols) in
      elim (Contains-append_cases maps compat e has) [
        | inl mapped ↦ Contains-append_left maps (compat ++ lit) e mapped
        | inr interpreted ↦ Contains-append_right maps (compat ++ lit) e (Contains-append_left compat lit e interpreted)
      ]

  pub told_refused : IsWhole library → (e : Fault) → Contains (Memory ∷ of_told) e → (e ≡ Memory) ⊎ HasFaultIn names library e
  told_refused whole e has = has_fault whole of_told e (λ fault. behind_keycodes (of_types ++ of_parts) e (Contains-append_right of_types of_parts e (told_among e fault))) has

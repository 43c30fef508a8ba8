-- Tables that are made of a source's bodies are those that the source means.
use Rattle.std.proofs.Common.{ℕ, ◌≡◌, ◌⊎◌, List, [], Result, Ok, Err, IfErr, IfOk, OnOk, inl, inr, subst, ◌∙◌}
use Rattle.ks_core.specs.Table.{KeysymTable}
use Rattle.kx_builder.specs.IndicatorMaps.{keymap_with, with_indicator_maps}
use Rattle.kx_builder.specs.Placed.{content_of_resolved}
use Rattle.kx_codes.specs.Codes.{Codes, CodesShow}
use Rattle.kx_group_names.specs.Names.{AreGroupNames}
use Rattle.kx_include.specs.Bodies.{AreBodies}
use Rattle.kx_include.specs.Expansion.{body_of}
use Rattle.kx_include.specs.Held.{IsHeld, StandsFor}
use Rattle.kx_include.specs.IncludeFaults.{IsWhole}
use Rattle.kx_include.specs.Library.{Library}
use Rattle.kx_include.specs.Shared.{expanded_body}
use Rattle.kx_include.specs.Source.{Handed}
use Rattle.kx_include.specs.declared.expansion.Bodies.{Bodies}
use Rattle.kx_lex.specs.declared.fault.Fault.{Fault}
use Rattle.kx_lex.specs.declared.fault.Fault.TheVariants.{Memory}
use Rattle.kx_virtual_mods.specs.Declarations.{AreModNames, ModNames, modifier_bodies}
use Rattle.kx_virtual_mods.specs.Sets.{real_of}
use Rattle.kx_virtual_mods.specs.Standing.{stands_for}
use Rattle.kx_tree.specs.declared.tree.Kind.TheVariants.{Keycodes}
use Rattle.kx_keys.specs.Keys.{keyed_of}
use Rattle.kx_resolve.specs.Lit.{indicators_of}
use Rattle.kx_resolve.specs.Shown.{keymap_meant}
use Rattle.kx_source.proofs.Joining.{keymap_same, lit_same, resolved_same}
use Rattle.kx_source.proofs.Keymaps.{one_keymap}
use Rattle.kx_source.specs.Made.{IsMade}
use Rattle.kx_source.specs.Meaning.{keymap_in}
use Rattle.kx_source.specs.Source.{HasFault, HasFaultIn, HoldsAll, Means, statement_faults}
use Rattle.kx_tables.specs.Content.{Content}
use Rattle.kx_tables.specs.Keymap.{keymap_of}
use Rattle.kx_types.specs.Types.{NamedTypes, TypesShow}
use Rattle.kx_keys.specs.Typing.{typing_by}

module _ (library : Library) (bodies : Bodies) (are : AreBodies library bodies) (m : ModNames) (shows : AreModNames m (modifier_bodies bodies)) (types : NamedTypes) (types_show : TypesShow types m.names (expanded_body bodies.types)) (c : Codes) (codes_show : CodesShow c (body_of library Keycodes)) (names : KeysymTable) (content : Content) (made : IsMade names m (expanded_body bodies.compat) (expanded_body bodies.symbols) c types content) where
  pub made_holds : HoldsAll names library content
  made_holds =
      let i = made.interpreted in
      let lit = i.lit in
      record {
        groups = lit.groups;
        groups_are = subst (AreGroupNames lit.groups) are.symbols lit.groups_are;
        content_is =
            lit.holds
            ∙ (λ j. with_indicator_maps
            (content_of_resolved (resolved_same library bodies are m shows types types_show c codes_show names made.keys made.keys_show made.modmaps made.mapped i.interpretations i.interpreted i.found i.stand j))
            (lit_same library bodies are m shows types types_show c codes_show names made.keys made.keys_show made.modmaps made.mapped i.interpretations i.interpreted i.found i.stand lit.indicator_maps lit.indicator_maps_are j)
            lit.groups);
      }

  pub made_keymap : keymap_of content ≡ keymap_in names library
  made_keymap =
      let i = made.interpreted in
      let lit = i.lit in
      one_keymap (keymap_of content) (keymap_with (keymap_meant (real_of (stands_for i.found)) (typing_by types names.letters) (keyed_of (real_of (stands_for i.found)) c made.keys made.modmaps i.interpretations)) (indicators_of (real_of (stands_for i.found)) lit.indicator_maps)) lit.agrees
      ∙ keymap_same library bodies are m shows types types_show c codes_show names made.keys made.keys_show made.modmaps made.mapped i.interpretations i.interpreted i.found i.stand lit.indicator_maps lit.indicator_maps_are

-- what holds of tables that are answered is what their source means
pub means_of : {N : Type 0} (source : List ℕ) (files : Handed) (names : KeysymTable) (held : Library) (is : IsHeld source files held) (r : Result (Content × N) Fault)
    → OnOk r ((whole : Library) → StandsFor held whole → IsWhole whole)
    → OnOk r ((whole : Library) → StandsFor held whole → statement_faults names whole ≡ [])
    → IfOk r (λ made. (whole : Library) → StandsFor held whole → HoldsAll names whole made.0)
    → IfOk r (λ made. (whole : Library) → StandsFor held whole → keymap_of made.0 ≡ keymap_in names whole)
    → IfOk r (λ made. Means source files names made.0)
means_of source files names held is (Ok made) whole faultless holds keymap = record {
  library = is.whole;
  read = is.read;
  whole = whole is.whole is.stands;
  faultless = faultless is.whole is.stands;
  holds = holds is.whole is.stands;
  keymap = keymap is.whole is.stands;
}
means_of source files names held is (Err e) whole faultless holds keymap = tt

-- a fault of the library that a source is read as is one of the source
pub has_fault_of : {A : Type 0} (source : List ℕ) (files : Handed) (names : KeysymTable) (held : Library) (is : IsHeld source files held) (r : Result A Fault)
    → IfErr r (λ e. (whole : Library) → StandsFor held whole → (e ≡ Memory) ⊎ HasFaultIn names whole e)
    → IfErr r (λ e. (e ≡ Memory) ⊎ HasFault source files names e)
has_fault_of source files names held is (Ok x) has = tt
has_fault_of source files names held is (Err e) has =
    elim (has is.whole is.stands) [
      | inl memory ↦ inl memory
      | inr fault ↦ inr (inr (inr (record { library = is.whole; read = is.read; has = fault })))
    ]

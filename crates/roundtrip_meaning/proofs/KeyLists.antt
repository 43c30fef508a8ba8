-- From the fields that a printed key shows to the lists of its groups.
use Rattle.std.proofs.Common.{◌≡◌, ℕ, ◌+◌, ◌<◌, ◌≤◌, true, List, [], ◌∷◌, ◌++◌, length, map, codes, is_some, ap, ◌∙◌, arith}
use Rattle.ks_core.specs.Table.{KeysymTable}
use Rattle.ks_core.specs.Lines.{is_sound}
use Rattle.std.specs.List.{list_all}
use Rattle.kx_builder.specs.Resolved.{ResolvedCell}
use Rattle.kx_tree.specs.declared.tree.FieldPlace.{FieldPlace}
use Rattle.kx_tree.specs.declared.tree.KeyField.{KeyField}
use Rattle.kx_tree.specs.declared.tree.List.{List as Listed}
use Rattle.kx_tree.specs.declared.tree.Setting.TheVariants.{To}
use Rattle.kx_tree.specs.declared.tree.Term.TheVariants as terms
use Rattle.kx_tree.specs.declared.tree.Value.{Value}
use Rattle.kx_tree.specs.declared.tree.Value.TheVariants as values
use Rattle.kx_symbols.specs.Actions.{defined}
use Rattle.kx_symbols.specs.Keysyms.{given}
use Rattle.kx_symbols.specs.Known.{Known}
use Rattle.kx_symbols.specs.Lists.{field_kind}
use Rattle.kx_tables.specs.declared.rows.Range.{Range}
use Rattle.kx_tables.specs.declared.rows.Range.TheVariants.{Wrap, Clamp, Redirect}
use Rattle.roundtrip_text.specs.Source.{EachOf, PrintedGroup, PrintedKey, GroupFits, KeyFits}
use Rattle.roundtrip_text.specs.KeyPhrases.{group_phrases, field_phrases}
use Rattle.roundtrip_text.specs.Keys.{group_phrase, range_phrases, key_phrase}
use Rattle.roundtrip_tree.specs.Keys.{IsFieldOf, IsIndexedField, IsTextOf}
use Rattle.roundtrip_tree.specs.Shows.{AreShown, none, more, number_at as number_shown}
use Rattle.roundtrip_meaning.specs.Given.{key_action}
use Rattle.roundtrip_meaning.specs.Groups.{IsOther, IsListFor, GroupLists, AreGroups, end, other, lists}
use Rattle.roundtrip_meaning.proofs.KeyShown.{group_is}
use Rattle.roundtrip_meaning.proofs.Keysyms.{levels_back}
use Rattle.roundtrip_meaning.proofs.Actions.{known_by, actions_back}

abbrev pub level_lists : PrintedGroup → GroupLists
level_lists g = record { symbols = map (λ (d : ResolvedCell). given d.syms) g.cells; actions = map (λ (d : ResolvedCell). defined (key_action d.action)) g.cells }

module _ (names : KeysymTable) (modifiers : List (List ℕ)) (table : list_all is_sound names.names ≡ true) where
  abbrev known : Known
  known = known_by names modifiers

  list_for : (w : List ℕ) (n : ℕ) (Is : Value → Type 0) (f : KeyField) (list : Listed) → n < 32 → (is : IsIndexedField w (n + 1) Is f) → is.value ≡ values.List list → IsListFor w n list f
  list_for w n Is f list small is value = record {
    field = is.field;
    word_span = is.word_span;
    index = record { value = record { first = terms.Number (number_shown (n + 1) is.number_span); rest = []; span = is.expression_span }; span = is.index_span };
    is = is.is;
    place_is = is.place_is;
    group_is = group_is n is.number_span is.expression_span small;
    setting_is = is.setting_is ∙ ap To value;
  }

  type_other : (n : ℕ) (name : List ℕ) (f : KeyField) → IsIndexedField (codes "type") n (IsTextOf name) f → IsOther f
  type_other n name f is = record { field = is.field; is = is.is; kind = ap (λ (p : FieldPlace). is_some (field_kind p)) is.place_is }

  ranges_other : (n : ℕ) (range : Range) (fs : List KeyField) → AreShown IsFieldOf (range_phrases range) fs → AreGroups known n [] fs
  ranges_other n Wrap fs none = end
  ranges_other n Clamp fs (more is none) = other (record { field = is.field; is = is.is; kind = ap (λ (p : FieldPlace). is_some (field_kind p)) is.place_is }) end
  ranges_other n (Redirect group) fs (more is none) = other (record { field = is.field; is = is.is; kind = ap (λ (p : FieldPlace). is_some (field_kind p)) is.place_is }) end

  groups_shown : (n : ℕ) (gs : List PrintedGroup) (range : Range) (fs : List KeyField) → n + length gs ≤ 32 → EachOf GroupFits gs → AreShown IsFieldOf (group_phrases (n + 1) (map group_phrase gs) ++ range_phrases range) fs → AreGroups known n (map level_lists gs) fs
  groups_shown n [] range fs few fit are = ranges_other n range fs are
  groups_shown n (g ∷ gs) range fs few fit (more it (more is (more ia are))) =
      let small : n < 32 = omega (arith, few) in
      other (type_other (n + 1) g.type_name _ it)
      (lists is.value_is.0 ia.value_is.0
      (list_for (codes "symbols") n _ _ is.value_is.0 small is is.value_is.1) (levels_back names table g.cells fit.0.cells is.value_is.0.elements is.value_is.2)
      (list_for (codes "actions") n _ _ ia.value_is.0 small ia ia.value_is.1) (actions_back names modifiers g.cells fit.0.cells ia.value_is.0.elements ia.value_is.2)
      (groups_shown (n + 1) gs range _ (omega (arith, few)) fit.1 are))

  pub are_groups : (k : PrintedKey) → KeyFits k → (fs : List KeyField) → AreShown IsFieldOf (field_phrases (key_phrase k)) fs → AreGroups known 0 (map level_lists k.groups) fs
  are_groups k fits fs are = let few = fits.few in groups_shown 0 k.groups k.range fs (omega (arith, few)) fits.groups are

-- What a field of an indicator gives, written in it or as a default, and its faults. Fields of other words are read and
-- not used, whatever they are set to.
use Rattle.std.specs.Prelude.{ℕ, List, [], ◌∷◌, Option, codes}
use Rattle.std.specs.Option.{option_map, option_map_or, option_and_then}
use Rattle.kx_include.specs.IncludeFaults.{at}
use Rattle.kx_lex.specs.declared.fault.Fault.{Fault}
use Rattle.kx_lex.specs.declared.fault.Fault.TheVariants.{UnknownField}
use Rattle.kx_lex.specs.declared.name.Name.{Name}
use Rattle.kx_virtual_mods.specs.Masks.{mask_set, mask_faults as modifier_faults}
use Rattle.kx_tree.specs.declared.tree.Expression.{Expression}
use Rattle.kx_tree.specs.declared.tree.Field.{Field}
use Rattle.kx_tree.specs.declared.tree.Index.{Index}
use Rattle.kx_tree.specs.declared.tree.Setting.{Setting}
use Rattle.kx_merge.specs.Faults.{expression_in, value_faults}
use Rattle.kx_merge.specs.Words.{among}
use Rattle.kx_indicators.specs.IndicatorMapMasks.{mask_faults, mask_of}
use Rattle.kx_indicators.specs.declared.values.IndicatorMapField.{IndicatorMapField}
use Rattle.kx_indicators.specs.declared.values.IndicatorMapField.TheVariants as fields
use Rattle.kx_indicators.specs.declared.values.IndicatorMapValue.{IndicatorMapValue}
use Rattle.kx_indicators.specs.declared.values.IndicatorMapValue.TheVariants as values
use Rattle.kx_indicators.specs.declared.masks.MaskKind.TheVariants.{States, Groups}

abbrev pub field_words : List (List ℕ × IndicatorMapField)
field_words = (codes "modifiers", fields.Modifiers) ∷ (codes "mods", fields.Modifiers) ∷ (codes "whichModState", fields.ModStates) ∷ (codes "whichGroupState", fields.GroupStates) ∷ (codes "groups", fields.Groups) ∷ []

-- `names` are the virtual modifiers by number
module _ (names : List (List ℕ)) where
  abbrev pub expression_value : IndicatorMapField → Expression → IndicatorMapValue
  expression_value fields.Modifiers e = values.Modifiers (mask_set names e)
  expression_value fields.ModStates e = values.ModStates (mask_of States e)
  expression_value fields.GroupStates e = values.GroupStates (mask_of States e)
  expression_value fields.Groups e = values.Groups (mask_of Groups e)

  -- `word` names the field: that of its place, or as a default the one after the point
  abbrev pub field_value : Name → Field → Option IndicatorMapValue
  field_value word field = option_and_then (λ known. option_map (expression_value known) (expression_in field.setting)) (among field_words word.bytes)

module _ (file : ℕ) (names : List (List ℕ)) where
  abbrev pub expression_faults : IndicatorMapField → Expression → List Fault
  expression_faults fields.Modifiers e = modifier_faults file names e
  expression_faults fields.ModStates e = mask_faults file States e
  expression_faults fields.GroupStates e = mask_faults file States e
  expression_faults fields.Groups e = mask_faults file Groups e

  abbrev pub field_faults : Name → Field → List Fault
  field_faults word field = option_map_or (λ known. option_map_or (λ _. UnknownField (at file word.span) ∷ []) field.place.index (value_faults file (expression_faults known) field.span field.setting)) (among field_words word.bytes) []

-- ---- Under a name, for clauses

abbrev pub known_value : List (List ℕ) → Setting → Option IndicatorMapField → Option IndicatorMapValue
known_value names setting known = option_and_then (λ k. option_map (expression_value names k) (expression_in setting)) known

abbrev pub placed_faults : (file : ℕ) → (names : List (List ℕ)) → Name → Field → IndicatorMapField → Option Index → List Fault
placed_faults file names word field known index = option_map_or (λ _. UnknownField (at file word.span) ∷ []) index (value_faults file (expression_faults file names known) field.span field.setting)

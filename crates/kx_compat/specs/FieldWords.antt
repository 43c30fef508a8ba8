-- What a field of an interpretation gives, written in it or as a default, and its faults.
use Rattle.std.specs.Prelude.{ℕ, Bool, true, false, List, [], ◌∷◌, Option, None, Some, is_some, if◌then◌else◌, codes}
use Rattle.std.specs.Option.{option_and_then, option_map}
use Rattle.kx_actions.specs.Arguments.{action_faults, action_of}
use Rattle.kx_actions.specs.Values.{bad_unless}
use Rattle.kx_actions.specs.declared.defaults.ActionDefaults.{ActionDefaults}
use Rattle.kx_include.specs.IncludeFaults.{at}
use Rattle.kx_lex.specs.declared.fault.Fault.{Fault}
use Rattle.kx_lex.specs.declared.fault.Fault.TheVariants.{BadValue, UnknownField, UnknownModifier}
use Rattle.kx_lex.specs.declared.name.Name.{Name}
use Rattle.kx_lex.specs.declared.token.Span.{Span}
use Rattle.kx_virtual_mods.specs.Masks.{real_mask, virtual_number}
use Rattle.kx_tree.specs.declared.tree.Call.{Call}
use Rattle.kx_tree.specs.declared.tree.Expression.{Expression}
use Rattle.kx_tree.specs.declared.tree.Field.{Field}
use Rattle.kx_tree.specs.declared.tree.Index.{Index}
use Rattle.kx_tree.specs.declared.tree.Setting.{Setting}
use Rattle.kx_tree.specs.declared.tree.Setting.TheVariants.{Off, On, To}
use Rattle.kx_tree.specs.declared.tree.Value.TheVariants.{Expression as Expressed, Call as Called, List as Listed}
use Rattle.kx_merge.specs.Faults.{expression_in, value_faults}
use Rattle.kx_merge.specs.Words.{among, lone_word, meaning_among}
use Rattle.kx_compat.specs.declared.fields.InterpretField.{InterpretField}
use Rattle.kx_compat.specs.declared.fields.InterpretField.TheVariants as fields
use Rattle.kx_compat.specs.declared.values.FieldValue.{FieldValue}
use Rattle.kx_compat.specs.declared.values.FieldValue.TheVariants.{Action, Modifier, FirstLevelOnly}

-- the words of fields, read without regard to case
abbrev pub field_words : List (List ℕ × InterpretField)
field_words =
    (codes "action", fields.Action) ∷ (codes "virtualModifier", fields.Modifier) ∷ (codes "virtualMod", fields.Modifier)
    ∷ (codes "useModMapMods", fields.Levels) ∷ (codes "useModMap", fields.Levels)
    ∷ (codes "repeat", fields.Unused) ∷ (codes "locking", fields.Unused) ∷ []

-- a field that has a meaning takes no index
abbrev pub indexed : Option Index → InterpretField → Option InterpretField
indexed None field = Some field
indexed (Some index) fields.Unused = Some fields.Unused
indexed (Some index) _ = None

abbrev pub field_named : List ℕ → Option Index → Option InterpretField
field_named word index = option_and_then (indexed index) (among field_words word)

-- whether an interpretation sees modifiers at the first level alone
abbrev pub level_words : List (List ℕ × Bool)
level_words = (codes "level1", true) ∷ (codes "levelone", true) ∷ (codes "anylevel", false) ∷ (codes "any", false) ∷ []

-- `names` are the virtual modifiers by number
module _ (names : List (List ℕ)) where
  -- a word for real modifiers is no virtual one
  abbrev pub word_modifier : Name → Option ℕ
  word_modifier word = if is_some (real_mask word.bytes) then None else virtual_number names word.bytes

  -- under the defaults for actions before it
  abbrev pub action_value : ActionDefaults → Setting → Option FieldValue
  action_value d (To (Called call)) = Some (Action (action_of names d call))
  action_value d _ = None

  -- what is read and not used gives nothing
  abbrev pub setting_value : ActionDefaults → Setting → InterpretField → Option FieldValue
  setting_value d setting fields.Action = action_value d setting
  setting_value d setting fields.Modifier = option_map Modifier (option_and_then (λ e. option_and_then word_modifier (lone_word e)) (expression_in setting))
  setting_value d setting fields.Levels = option_map FirstLevelOnly (option_and_then (meaning_among level_words) (expression_in setting))
  setting_value d setting fields.Unused = None

  -- `word` names the field: that of its place, or as a default the one after the point
  abbrev pub field_value : ActionDefaults → Name → Field → Option FieldValue
  field_value d word field = option_and_then (setting_value d field.setting) (field_named word.bytes field.place.index)

module _ (file : ℕ) where
  abbrev pub levels_faults : Expression → List Fault
  levels_faults e = bad_unless file (is_some (meaning_among level_words e)) e.span

  -- of a setting that must be a call
  abbrev pub call_faults : (Call → List Fault) → Span → Setting → List Fault
  call_faults faults whole (To (Expressed e)) = BadValue (at file e.span) ∷ []
  call_faults faults whole (To (Called call)) = faults call
  call_faults faults whole (To (Listed list)) = BadValue (at file list.span) ∷ []
  call_faults faults whole Off = BadValue (at file whole) ∷ []
  call_faults faults whole On = BadValue (at file whole) ∷ []

  module _ (names : List (List ℕ)) where
    abbrev pub word_faults : Span → Option Name → List Fault
    word_faults whole None = BadValue (at file whole) ∷ []
    word_faults whole (Some word) = if is_some (real_mask word.bytes) then BadValue (at file whole) ∷ [] else if is_some (virtual_number names word.bytes) then [] else UnknownModifier (at file word.span) ∷ []

    -- one word, a virtual modifier
    abbrev pub modifier_faults : Expression → List Fault
    modifier_faults e = word_faults e.span (lone_word e)

    -- what is read and not used may have any value
    abbrev pub setting_faults : Span → Setting → InterpretField → List Fault
    setting_faults whole setting fields.Action = call_faults (action_faults file names) whole setting
    setting_faults whole setting fields.Modifier = value_faults file modifier_faults whole setting
    setting_faults whole setting fields.Levels = value_faults file levels_faults whole setting
    setting_faults whole setting fields.Unused = []

    abbrev pub known_faults : Name → Field → Option InterpretField → List Fault
    known_faults word field None = UnknownField (at file word.span) ∷ []
    known_faults word field (Some known) = setting_faults field.span field.setting known

    abbrev pub field_faults : Name → Field → List Fault
    field_faults word field = known_faults word field (field_named word.bytes field.place.index)

-- ---- Under names, for clauses and proofs

abbrev pub levels_value : Setting → Option FieldValue
levels_value s = option_map FirstLevelOnly (option_and_then (meaning_among level_words) (expression_in s))

abbrev pub modifier_of : (names : List (List ℕ)) → Expression → Option ℕ
modifier_of names e = option_and_then (word_modifier names) (lone_word e)

abbrev pub modifier_value : (names : List (List ℕ)) → Setting → Option FieldValue
modifier_value names s = option_map Modifier (option_and_then (λ e. option_and_then (word_modifier names) (lone_word e)) (expression_in s))

-- What a field of a type statement says, and its faults.
use Rattle.std.specs.Prelude.{ℕ, Bool, List, [], ◌∷◌, ◌++◌, Option, None, Some, is_some, if◌then◌else◌, codes}
use Rattle.std.specs.List.{flat_map}
use Rattle.std.specs.Option.{option_and_then, option_map, option_to_list}
use Rattle.kx_include.specs.IncludeFaults.{at}
use Rattle.kx_lex.specs.declared.fault.Fault.{Fault}
use Rattle.kx_lex.specs.declared.fault.Fault.TheVariants.{BadValue, UnknownField}
use Rattle.kx_virtual_mods.specs.Masks.{mask_faults, mask_set}
use Rattle.kx_tree.specs.declared.tree.Expression.{Expression}
use Rattle.kx_tree.specs.declared.tree.Field.{Field}
use Rattle.kx_tree.specs.declared.tree.Index.{Index}
use Rattle.kx_tree.specs.declared.tree.Operation.{Operation}
use Rattle.kx_tree.specs.declared.tree.Term.{Term}
use Rattle.kx_merge.specs.Faults.{expression_in, value_faults}
use Rattle.kx_merge.specs.Numbers.{number_faults, number_named}
use Rattle.kx_merge.specs.Words.{among, lone_text, single, term_text}
use Rattle.kx_merge.specs.declared.numbers.Counted.TheVariants.{Level}
use Rattle.kx_types.specs.declared.fields.Slot.{Slot}
use Rattle.kx_types.specs.declared.fields.Slot.TheVariants as slots
use Rattle.kx_types.specs.declared.saying.Saying.{Saying}
use Rattle.kx_types.specs.declared.saying.Saying.TheVariants.{Modifiers, Map, Preserve, LevelName}

-- what the word of a field sets
abbrev pub slot_of : List ℕ → Option Slot
slot_of word = among ((codes "modifiers", slots.Modifiers) ∷ (codes "map", slots.Map) ∷ (codes "preserve", slots.Preserve) ∷ (codes "level_name", slots.LevelName) ∷ (codes "levelname", slots.LevelName) ∷ []) word

-- `names` are the virtual modifiers by number
module _ (names : List (List ℕ)) where
  -- what a field says that sets a slot, with an index or without
  abbrev pub slot_saying : Option Slot → Option Index → Field → Option Saying
  slot_saying (Some slots.Modifiers) None field = option_map (λ e. Modifiers (mask_set names e)) (expression_in field.setting)
  slot_saying (Some slots.Map) (Some index) field = option_map (Map (mask_set names index.value)) (option_and_then (number_named Level) (expression_in field.setting))
  slot_saying (Some slots.Preserve) (Some index) field = option_map (λ e. Preserve (mask_set names index.value) (mask_set names e)) (expression_in field.setting)
  slot_saying (Some slots.LevelName) (Some index) field = option_map LevelName (number_named Level index.value)
  slot_saying _ _ field = None

  abbrev pub sayings_of : List Field → List Saying
  sayings_of fields = flat_map (λ f. option_to_list (if is_some f.place.member then None else slot_saying (slot_of f.place.word.bytes) f.place.index f)) fields

  module _ (file : ℕ) where
    -- a field that no type has, or with an index where none is taken, or without where one is needed
    abbrev pub unknown_field : Field → List Fault
    unknown_field field = UnknownField (at file field.place.word.span) ∷ []

    abbrev pub slot_faults : Option Slot → Option Index → Field → List Fault
    slot_faults (Some slots.Modifiers) None field = value_faults file (mask_faults file names) field.span field.setting
    slot_faults (Some slots.Map) (Some index) field = mask_faults file names index.value ++ value_faults file (number_faults file Level) field.span field.setting
    slot_faults (Some slots.Preserve) (Some index) field = mask_faults file names index.value ++ value_faults file (mask_faults file names) field.span field.setting
    slot_faults (Some slots.LevelName) (Some index) field = number_faults file Level index.value ++ value_faults file (λ e. if is_some (lone_text e) then [] else BadValue (at file e.span) ∷ []) field.span field.setting
    slot_faults _ _ field = unknown_field field

    abbrev pub field_faults : Field → List Fault
    field_faults field = if is_some field.place.member then unknown_field field else slot_faults (slot_of field.place.word.bytes) field.place.index field

-- ---- Under a name, for clauses

abbrev pub is_text : Term → List Operation → Bool
is_text term os = is_some (single os (term_text term))

abbrev pub text_faults : ℕ → Expression → List Fault
text_faults file e = if is_some (lone_text e) then [] else BadValue (at file e.span) ∷ []

abbrev pub saying_of : (names : List (List ℕ)) → Field → Option Saying
saying_of names field = if is_some field.place.member then None else (slot_saying names) (slot_of field.place.word.bytes) field.place.index field

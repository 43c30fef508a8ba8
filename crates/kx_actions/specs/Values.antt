-- What an argument, or a default statement for it, gives to a field of an action, and its faults.
use Rattle.std.specs.Prelude.{ℕ, Bool, true, false, List, [], ◌∷◌, Option, None, Some, is_some, if◌then◌else◌, codes}
use Rattle.std.specs.Option.{option_and_then, option_map, option_map_or}
use Rattle.std.specs.Str.{str_eq_ignore_ascii_case}
use Rattle.kx_include.specs.IncludeFaults.{at}
use Rattle.kx_lex.specs.declared.fault.Fault.{Fault}
use Rattle.kx_lex.specs.declared.fault.Fault.TheVariants.{BadValue, GroupRange, UnknownField}
use Rattle.kx_lex.specs.declared.name.Name.{Name}
use Rattle.kx_lex.specs.declared.token.Span.{Span}
use Rattle.kx_virtual_mods.specs.Masks.{mask_faults, mask_set}
use Rattle.kx_tree.specs.declared.tree.Expression.{Expression}
use Rattle.kx_tree.specs.declared.tree.Index.{Index}
use Rattle.kx_tree.specs.declared.tree.Setting.{Setting}
use Rattle.kx_tree.specs.declared.tree.Setting.TheVariants.{Off, On, To}
use Rattle.kx_tree.specs.declared.tree.Value.TheVariants.{Expression as Expressed, Call as Called, List as Listed}
use Rattle.kx_merge.specs.Words.{lone_word, meaning_among, truth_words}
use Rattle.kx_actions.specs.Groups.{Written, change_of, written}
use Rattle.kx_actions.specs.Words.{field_of}
use Rattle.kx_actions.specs.declared.action.ActionMods.{ActionMods}
use Rattle.kx_actions.specs.declared.action.ActionMods.TheVariants.{Named, OfKey}
use Rattle.kx_actions.specs.declared.action.Affect.{Affect}
use Rattle.kx_actions.specs.declared.action.Affect.TheVariants as affects
use Rattle.kx_actions.specs.declared.kinds.ActionField.{ActionField}
use Rattle.kx_actions.specs.declared.kinds.ActionField.TheVariants as fields
use Rattle.kx_actions.specs.declared.kinds.ActionKind.{ActionKind}
use Rattle.kx_actions.specs.declared.settings.Given.{Given}
use Rattle.kx_actions.specs.declared.settings.Given.TheVariants as given

abbrev pub affect_words : List (List ℕ × Affect)
affect_words = (codes "lock", affects.Lock) ∷ (codes "unlock", affects.Unlock) ∷ (codes "both", affects.Both) ∷ (codes "neither", affects.Neither) ∷ []

abbrev pub is_modmap : Expression → Bool
is_modmap e = option_map_or (λ w. str_eq_ignore_ascii_case w.bytes (codes "modMapMods")) (lone_word e) false

-- a flag without a value is true, with `!` false
abbrev pub flag_given : ActionField → Bool → Option Given
flag_given fields.ClearLocks b = Some (given.ClearLocks b)
flag_given fields.LatchToLock b = Some (given.LatchToLock b)
flag_given _ b = None

-- `names` are the virtual modifiers by number
module _ (names : List (List ℕ)) where
  abbrev pub mods_of : Expression → ActionMods
  mods_of e = if is_modmap e then OfKey else Named (mask_set names e)

  -- what a field is given by a value
  abbrev pub value_given : ActionField → Expression → Option Given
  value_given fields.Modifiers e = Some (given.Modifiers (mods_of e))
  value_given fields.Group e = option_map given.Group (option_and_then change_of (written e))
  value_given fields.Affect e = option_map given.Affect (meaning_among affect_words e)
  value_given fields.ClearLocks e = option_map given.ClearLocks (meaning_among truth_words e)
  value_given fields.LatchToLock e = option_map given.LatchToLock (meaning_among truth_words e)

  abbrev pub setting_given : ActionField → Setting → Option Given
  setting_given field Off = flag_given field false
  setting_given field On = flag_given field true
  setting_given field (To (Expressed e)) = value_given field e
  setting_given field (To _) = None

-- a field of an action takes no index
abbrev pub known_field : ActionKind → Name → Option Index → Option ActionField
known_field kind word index = if is_some index then None else field_of kind word.bytes

-- what an action's field, named by a word with an index or without, is given by a setting
abbrev pub member_given : List (List ℕ) → ActionKind → Name → Option Index → Setting → Option Given
member_given names kind word index setting = option_and_then (λ field. setting_given names field setting) (known_field kind word index)

module _ (file : ℕ) where
  abbrev pub bad_unless : Bool → Span → List Fault
  bad_unless valid span = if valid then [] else BadValue (at file span) ∷ []

  abbrev pub written_faults : Span → Option Written → List Fault
  written_faults span None = BadValue (at file span) ∷ []
  written_faults span (Some w) = if is_some (change_of w) then [] else GroupRange (at file span) ∷ []

  module _ (names : List (List ℕ)) where
    abbrev pub mods_faults : Expression → List Fault
    mods_faults e = if is_modmap e then [] else mask_faults file names e

    abbrev pub value_faults : ActionField → Expression → List Fault
    value_faults fields.Modifiers e = mods_faults e
    value_faults fields.Group e = written_faults e.span (written e)
    value_faults fields.Affect e = bad_unless (is_some (meaning_among affect_words e)) e.span
    value_faults fields.ClearLocks e = bad_unless (is_some (meaning_among truth_words e)) e.span
    value_faults fields.LatchToLock e = bad_unless (is_some (meaning_among truth_words e)) e.span

    -- `whole` is the argument or the statement's field; where a value is needed and none is written, the fault is there
    abbrev pub setting_faults : Span → Setting → ActionField → List Fault
    setting_faults whole Off field = bad_unless (is_some (flag_given field false)) whole
    setting_faults whole On field = bad_unless (is_some (flag_given field true)) whole
    setting_faults whole (To (Expressed e)) field = value_faults field e
    setting_faults whole (To (Called call)) field = BadValue (at file call.span) ∷ []
    setting_faults whole (To (Listed list)) field = BadValue (at file list.span) ∷ []

    abbrev pub known_faults : Name → Span → Setting → Option ActionField → List Fault
    known_faults word whole setting None = UnknownField (at file word.span) ∷ []
    known_faults word whole setting (Some field) = setting_faults whole setting field

    abbrev pub member_faults : ActionKind → Name → Option Index → Span → Setting → List Fault
    member_faults kind word index whole setting = known_faults word whole setting (known_field kind word index)

-- The words of actions and of their arguments, which are read without regard to case, and which arguments an action has.
use Rattle.std.specs.Prelude.{ℕ, Bool, List, [], ◌∷◌, Option, None, Some, if◌then◌else◌, codes}
use Rattle.std.specs.List.{list_any}
use Rattle.std.specs.Option.{option_and_then}
use Rattle.kx_actions.specs.contracts.kinds.ActionFieldPartialEq.TheImpl.{ghosts}
use Rattle.kx_merge.specs.Words.{among}
use Rattle.kx_actions.specs.declared.kinds.ActionField.{ActionField}
use Rattle.kx_actions.specs.declared.kinds.ActionField.TheVariants as fields
use Rattle.kx_actions.specs.declared.kinds.ActionKind.{ActionKind}
use Rattle.kx_actions.specs.declared.kinds.ActionKind.TheVariants as kinds

abbrev pub kind_words : List (List ℕ × ActionKind)
kind_words =
    (codes "setMods", kinds.SetMods) ∷ (codes "latchMods", kinds.LatchMods) ∷ (codes "lockMods", kinds.LockMods)
    ∷ (codes "setGroup", kinds.SetGroup) ∷ (codes "latchGroup", kinds.LatchGroup) ∷ (codes "lockGroup", kinds.LockGroup)
    ∷ (codes "noAction", kinds.NoAction) ∷ []

abbrev pub argument_words : List (List ℕ × ActionField)
argument_words =
    (codes "modifiers", fields.Modifiers) ∷ (codes "mods", fields.Modifiers) ∷ (codes "group", fields.Group)
    ∷ (codes "affect", fields.Affect) ∷ (codes "clearLocks", fields.ClearLocks) ∷ (codes "latchToLock", fields.LatchToLock) ∷ []

-- the arguments that an action has
abbrev pub fields_of : ActionKind → List ActionField
fields_of kinds.SetMods = fields.Modifiers ∷ fields.ClearLocks ∷ []
fields_of kinds.LatchMods = fields.Modifiers ∷ fields.ClearLocks ∷ fields.LatchToLock ∷ []
fields_of kinds.LockMods = fields.Modifiers ∷ fields.Affect ∷ []
fields_of kinds.SetGroup = fields.Group ∷ fields.ClearLocks ∷ []
fields_of kinds.LatchGroup = fields.Group ∷ fields.ClearLocks ∷ fields.LatchToLock ∷ []
fields_of kinds.LockGroup = fields.Group ∷ []
fields_of kinds.NoAction = []

abbrev pub has_field : ActionKind → ActionField → Bool
has_field kind field = list_any (ghosts.eq field) (fields_of kind)

-- the field of an action that a word names
abbrev pub field_of : ActionKind → List ℕ → Option ActionField
field_of kind word = option_and_then (λ field. if has_field kind field then Some field else None) (among argument_words word)

-- ---- Under a name, for clauses and proofs

abbrev pub of_kind : ActionKind → ActionField → Option ActionField
of_kind kind field = if has_field kind field then Some field else None

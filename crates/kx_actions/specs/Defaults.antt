-- The defaults that fields as `setMods.clearLocks = yes;` give the arguments of actions.
use Rattle.std.specs.Prelude.{ℕ, List, [], ◌∷◌, Bool, true, false, fold, Option, None, Some, if◌then◌else◌}
use Rattle.std.specs.Option.{option_and_then, option_map_or}
use Rattle.kx_include.specs.IncludeFaults.{at}
use Rattle.kx_lex.specs.declared.fault.Fault.{Fault}
use Rattle.kx_lex.specs.declared.fault.Fault.TheVariants.{UnknownField}
use Rattle.kx_tree.specs.declared.tree.Field.{Field}
use Rattle.kx_actions.specs.Settings.{last_settings, no_settings, with_given}
use Rattle.kx_actions.specs.Values.{member_faults, member_given}
use Rattle.kx_merge.specs.Words.{among}
use Rattle.kx_actions.specs.Words.{kind_words}
use Rattle.kx_actions.specs.declared.defaults.ActionDefaults.{ActionDefaults}
use Rattle.kx_actions.specs.declared.kinds.ActionKind.{ActionKind}
use Rattle.kx_actions.specs.declared.kinds.ActionKind.TheVariants as kinds
use Rattle.kx_actions.specs.declared.settings.Given.{Given}
use Rattle.kx_actions.specs.declared.settings.Settings.{Settings}

abbrev pub no_defaults : ActionDefaults
no_defaults = record { set_mods = no_settings; latch_mods = no_settings; lock_mods = no_settings; set_group = no_settings; latch_group = no_settings; lock_group = no_settings }

abbrev pub settings_for : ActionDefaults → ActionKind → Settings
settings_for d kinds.SetMods = d.set_mods
settings_for d kinds.LatchMods = d.latch_mods
settings_for d kinds.LockMods = d.lock_mods
settings_for d kinds.SetGroup = d.set_group
settings_for d kinds.LatchGroup = d.latch_group
settings_for d kinds.LockGroup = d.lock_group
settings_for d kinds.NoAction = no_settings

abbrev pub with_settings : ActionDefaults → ActionKind → Settings → ActionDefaults
with_settings d kinds.SetMods s = record d { set_mods = s }
with_settings d kinds.LatchMods s = record d { latch_mods = s }
with_settings d kinds.LockMods s = record d { lock_mods = s }
with_settings d kinds.SetGroup s = record d { set_group = s }
with_settings d kinds.LatchGroup s = record d { latch_group = s }
with_settings d kinds.LockGroup s = record d { lock_group = s }
with_settings d kinds.NoAction s = d

abbrev pub is_same : ActionKind → ActionKind → Bool
is_same kinds.SetMods kinds.SetMods = true
is_same kinds.LatchMods kinds.LatchMods = true
is_same kinds.LockMods kinds.LockMods = true
is_same kinds.SetGroup kinds.SetGroup = true
is_same kinds.LatchGroup kinds.LatchGroup = true
is_same kinds.LockGroup kinds.LockGroup = true
is_same kinds.NoAction kinds.NoAction = true
is_same _ _ = false

-- the action that a field is a default for
abbrev pub kind_of : Field → Option ActionKind
kind_of field = among kind_words field.place.word.bytes

module _ (names : List (List ℕ)) where
  -- what a field gives the action of a kind
  abbrev pub default_for : ActionKind → Field → Option Given
  default_for kind field = option_and_then (λ member. member_given names kind member field.place.index field.setting) field.place.member

  abbrev pub given_as : ActionKind → Field → Option ActionKind → Option Given
  given_as kind field None = None
  given_as kind field (Some k) = if is_same kind k then default_for k field else None

  -- what a field gives an action as a default, where it is one for this action
  abbrev pub default_given : ActionKind → Field → Option Given
  default_given kind field = given_as kind field (kind_of field)

  -- what default statements give an action: each of its fields has what the last of those gives that give it anything
  abbrev pub defaulted : List Field → ActionKind → Settings
  defaulted statements kind = last_settings (default_given kind) no_settings statements

  -- the defaults after one more statement
  abbrev pub next_defaults : ActionDefaults → Field → ActionDefaults
  next_defaults d field = option_map_or (λ kind. option_map_or (λ g. with_settings d kind (with_given (settings_for d kind) g)) (default_for kind field) d) (kind_of field) d

  -- those after statements, from the start of a section
  abbrev pub defaults_after : List Field → ActionDefaults
  defaults_after statements = fold next_defaults no_defaults statements

module _ (file : ℕ) (names : List (List ℕ)) (field : Field) where
  -- of a field as a default for an action
  abbrev pub default_faults : List Fault
  default_faults = option_map_or (λ member. option_map_or (λ kind. member_faults file names kind member field.place.index field.span field.setting) (kind_of field) (UnknownField (at file field.place.word.span) ∷ [])) field.place.member (UnknownField (at file field.place.word.span) ∷ [])

-- ---- Under names, for clauses and proofs

abbrev pub taken_up : ActionDefaults → ActionKind → Option Given → ActionDefaults
taken_up d kind given = option_map_or (λ g. with_settings d kind (with_given (settings_for d kind) g)) given d

abbrev pub next_for : List (List ℕ) → ActionDefaults → Field → Option ActionKind → ActionDefaults
next_for names d field kind = option_map_or (λ k. taken_up d k (default_for names k field)) kind d

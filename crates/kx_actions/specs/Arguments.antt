-- What a call says as an action, under the defaults before it, and its faults.
use Rattle.std.specs.Prelude.{ℕ, pos, List, [], ◌∷◌, false, Option, None, Some, unwrap_or}
use Rattle.std.specs.List.{flat_map}
use Rattle.std.specs.Option.{option_and_then, option_map}
use Rattle.kx_include.specs.IncludeFaults.{at}
use Rattle.kx_lex.specs.declared.fault.Fault.{Fault}
use Rattle.kx_lex.specs.declared.fault.Fault.TheVariants.{BadValue}
use Rattle.kx_lex.specs.declared.name.Name.{Name}
use Rattle.kx_lex.specs.declared.token.Span.{Span}
use Rattle.kx_tree.specs.declared.tree.Argument.{Argument}
use Rattle.kx_tree.specs.declared.tree.Argument.TheVariants as arguments
use Rattle.kx_tree.specs.declared.tree.Call.{Call}
use Rattle.kx_tree.specs.declared.tree.Index.{Index}
use Rattle.kx_tree.specs.declared.tree.PlacedArgument.{PlacedArgument}
use Rattle.kx_tree.specs.declared.tree.Setting.{Setting}
use Rattle.kx_tree.specs.declared.tree.Setting.TheVariants.{Off, On, To}
use Rattle.kx_tree.specs.declared.tree.Value.TheVariants.{Expression as Expressed}
use Rattle.kx_tables.specs.declared.rows.GroupChange.TheVariants.{Relative}
use Rattle.kx_actions.specs.Defaults.{settings_for}
use Rattle.kx_actions.specs.Settings.{last_settings}
use Rattle.kx_merge.specs.Words.{among, lone_word}
use Rattle.kx_actions.specs.Values.{member_faults, member_given}
use Rattle.kx_actions.specs.Words.{kind_words}
use Rattle.kx_actions.specs.declared.action.ActionMods.TheVariants.{Named}
use Rattle.kx_actions.specs.declared.action.Affect.TheVariants.{Both}
use Rattle.kx_actions.specs.declared.action.KeyAction.{KeyAction}
use Rattle.kx_actions.specs.declared.action.KeyAction.TheVariants as actions
use Rattle.kx_actions.specs.declared.defaults.ActionDefaults.{ActionDefaults}
use Rattle.kx_actions.specs.declared.kinds.ActionKind.{ActionKind}
use Rattle.kx_actions.specs.declared.kinds.ActionKind.TheVariants as kinds
use Rattle.kx_actions.specs.declared.settings.Given.{Given}
use Rattle.kx_actions.specs.declared.settings.Settings.{Settings}

-- a field as it is named, by a word with an index or without, and its setting
abbrev pub named : Argument → Option (Name × Option Index × Setting)
named (arguments.Off word) = Some (word, None, Off)
named (arguments.Set word index value) = Some (word, index, To (Expressed value))
named (arguments.Plain e) = option_map (λ word. (word, None, On)) (lone_word e)

-- absent modifiers are none, an absent group is a change by 0, an absent affect is both, absent flags are false
abbrev pub action_with : ActionKind → Settings → KeyAction
action_with kinds.SetMods s = actions.SetMods (unwrap_or s.modifiers (Named 0)) (unwrap_or s.clear_locks false)
action_with kinds.LatchMods s = actions.LatchMods (unwrap_or s.modifiers (Named 0)) (unwrap_or s.clear_locks false) (unwrap_or s.latch_to_lock false)
action_with kinds.LockMods s = actions.LockMods (unwrap_or s.modifiers (Named 0)) (unwrap_or s.affect Both)
action_with kinds.SetGroup s = actions.SetGroup (unwrap_or s.group (Relative (pos 0))) (unwrap_or s.clear_locks false)
action_with kinds.LatchGroup s = actions.LatchGroup (unwrap_or s.group (Relative (pos 0))) (unwrap_or s.clear_locks false) (unwrap_or s.latch_to_lock false)
action_with kinds.LockGroup s = actions.LockGroup (unwrap_or s.group (Relative (pos 0)))
action_with kinds.NoAction s = actions.NoAction

module _ (names : List (List ℕ)) where
  -- each field has what the call's last argument for it gives, else its default; an action of an unknown name has no effect
  abbrev pub action_for : ActionDefaults → List PlacedArgument → Option ActionKind → KeyAction
  action_for d xs None = actions.Other
  action_for d xs (Some kind) = action_with kind (last_settings (λ a. option_and_then (λ n. member_given names kind n.0 n.1 n.2) (named a.argument)) (settings_for d kind) xs)

  abbrev pub action_of : ActionDefaults → Call → KeyAction
  action_of d call = action_for d call.arguments (among kind_words call.word.bytes)

module _ (file : ℕ) (names : List (List ℕ)) where
  abbrev pub named_faults : ActionKind → Span → Option (Name × Option Index × Setting) → List Fault
  named_faults kind whole None = BadValue (at file whole) ∷ []
  named_faults kind whole (Some n) = member_faults file names kind n.0 n.1 whole n.2

  abbrev pub argument_faults : ActionKind → PlacedArgument → List Fault
  argument_faults kind a = named_faults kind a.span (named a.argument)

  -- the arguments of an action of an unknown name are only read
  abbrev pub arguments_faults : List PlacedArgument → Option ActionKind → List Fault
  arguments_faults xs None = []
  arguments_faults xs (Some kind) = flat_map (argument_faults kind) xs

  abbrev pub action_faults : Call → List Fault
  action_faults call = arguments_faults call.arguments (among kind_words call.word.bytes)

-- ---- Under names, for clauses and proofs

abbrev pub argument_given : (names : List (List ℕ)) → ActionKind → PlacedArgument → Option Given
argument_given names kind a = option_and_then (λ n. member_given names kind n.0 n.1 n.2) (named a.argument)

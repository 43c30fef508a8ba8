-- The actions that a key's lists stand for, level by level.
use Rattle.std.specs.Prelude.{List, [], ◌∷◌, map, Option, None, Some}
use Rattle.std.specs.List.{flat_map}
use Rattle.kx_actions.specs.Arguments.{action_of}
use Rattle.kx_actions.specs.declared.action.KeyAction.{KeyAction}
use Rattle.kx_actions.specs.declared.action.KeyAction.TheVariants.{NoAction}
use Rattle.kx_tree.specs.declared.tree.Call.{Call}
use Rattle.kx_tree.specs.declared.tree.Element.{Element}
use Rattle.kx_tree.specs.declared.tree.Element.TheVariants as elements
use Rattle.kx_tree.specs.declared.tree.List.{List as Listed}
use Rattle.kx_tree.specs.declared.tree.BracePart.{BracePart}
use Rattle.kx_tree.specs.declared.tree.BracePart.TheVariants as parts
use Rattle.kx_symbols.specs.Known.{Known}

-- no action defines nothing
abbrev pub defined : KeyAction → Option KeyAction
defined NoAction = None
defined action = Some action

abbrev pub call_in : BracePart → List Call
call_in (parts.Symbol symbol) = []
call_in (parts.Call call) = call ∷ []

abbrev pub calls_in : List BracePart → List Call
calls_in ps = flat_map call_in ps

abbrev pub call_action : Known → Call → Option KeyAction
call_action known call = defined (action_of known.modifiers known.defaults.actions call)

-- a level has one action at most
abbrev pub only_action : Known → List Call → Option KeyAction
only_action known (call ∷ []) = call_action known call
only_action known calls = None

abbrev pub element_action : Known → Element → Option KeyAction
element_action known (elements.Symbol symbol) = None
element_action known (elements.Call call) = call_action known call
element_action known (elements.Braces braces) = only_action known (calls_in braces.parts)

abbrev pub actions_of : Known → Listed → List (Option KeyAction)
actions_of known list = map (element_action known) list.elements

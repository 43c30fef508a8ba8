use Rattle.std.proofs.Common.{◌≡◌, ◌++◌, drop, map}
use Rattle.std.specs.List.{flat_map}
use Rattle.kx_symbols.specs.Actions.{element_action}
use Rattle.kx_symbols.specs.KeyFaults.{action_element_faults}
use Rattle.kx_symbols.proofs.actions.read_actions.Given as goal

abbrev pub invariant-elements : goal.invariant-elements
invariant-elements l = (map (element_action l.known) l.elements ≡ l.levels.items ++ map (element_action l.known) (drop l.element-index l.elements)) × (flat_map (action_element_faults l.file l.known.modifiers) l.elements ≡ flat_map (action_element_faults l.file l.known.modifiers) (drop l.element-index l.elements))

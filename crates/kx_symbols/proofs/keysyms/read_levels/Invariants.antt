use Rattle.std.proofs.Common.{◌≡◌, ◌++◌, drop, map}
use Rattle.std.specs.List.{flat_map}
use Rattle.kx_symbols.specs.KeyFaults.{element_faults}
use Rattle.kx_symbols.specs.Keysyms.{element_level}
use Rattle.kx_symbols.proofs.keysyms.read_levels.Given as goal

abbrev pub invariant-elements : goal.invariant-elements
invariant-elements l = (map (element_level l.names) l.elements ≡ l.levels.items ++ map (element_level l.names) (drop l.element-index l.elements)) × (flat_map (element_faults l.whole.file l.whole.span) l.elements ≡ flat_map (element_faults l.whole.file l.whole.span) (drop l.element-index l.elements))

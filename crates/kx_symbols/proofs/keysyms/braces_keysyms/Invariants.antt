use Rattle.std.proofs.Common.{◌≡◌, ◌≤◌, ◌++◌, drop, length}
use Rattle.std.specs.List.{flat_map}
use Rattle.kx_symbols.specs.KeyFaults.{part_faults}
use Rattle.kx_symbols.specs.Keysyms.{part_keysyms}
use Rattle.kx_symbols.proofs.keysyms.braces_keysyms.Given as goal

abbrev pub invariant-parts : goal.invariant-parts
invariant-parts l = (flat_map (part_keysyms l.names) l.parts ≡ l.keysyms ++ flat_map (part_keysyms l.names) (drop l.part-index l.parts)) × (flat_map (part_faults l.whole.file) l.parts ≡ flat_map (part_faults l.whole.file) (drop l.part-index l.parts)) × (length l.keysyms ≤ l.part-index)

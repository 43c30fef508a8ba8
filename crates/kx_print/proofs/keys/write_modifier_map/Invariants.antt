use Rattle.std.proofs.Common.{List, ℕ}
use Rattle.std.specs.List.{flat_map}
use Rattle.ks_core.specs.BufferedOut.{Writes}
use Rattle.kx_mods.specs.Mods.{mask, mod_names}
use Rattle.kx_print.specs.Printed.{modifier_map_line}
use Rattle.kx_print.proofs.Chosen.{ChosenSoFar}
use Rattle.kx_print.proofs.keys.write_modifier_map.Given as goal

abbrev pub invariant-loop-bit : goal.invariant-loop-bit
invariant-loop-bit g l =
    (done : List (List ℕ)) × ChosenSoFar (mask l.fn.mods) l.left mod_names l.bit done
    × Writes g.O.Out.written g.O.Out.failures l.fn.out l.fn.buffered l.out l.buffered (flat_map (modifier_map_line l.name) done)

use Rattle.std.proofs.Common.{◌<◌, [], ◌∷◌, ◌++◌, length, arith}
use Rattle.kx_mods.specs.Mods.{mask, mod_names}
use Rattle.kx_print.specs.Printed.{modifier_map_line}
use Rattle.kx_print.proofs.Chosen.{chosen_no, chosen_yes}
use Rattle.kx_print.proofs.Rows.{flat_map-more}
use Rattle.kx_print.proofs.Writing.{◌⨟◌, rewritten}
use Rattle.kx_print.proofs.keys.write_modifier_map.Goals as goal
use Rattle.kx_print.proofs.keys.write_modifier_map.Goals.{then-left-eq1, else-left-eq1}

pub loop-bit-preserved : goal.loop-bit-preserved
loop-bit-preserved g c =
    let inv = c.loop-bit.invariant in
    let within : c.loop-bit.bit < length mod_names = omega (arith, c.count-bit-end.ensures, c.loop-bit-test.true) in
    elim c.if-left-eq1.branch [
      | then-left-eq1 w ↦
          rw (w.buffered-is, w.out-is) (
            inv.0 ++ w.of.result.now ∷ [],
            chosen_yes (mask c.args.mods) c.loop-bit.left mod_names c.loop-bit.bit w.of.result.now inv.0 w.of.ensures w.if-left-eq1.true inv.1,
            rewritten (flat_map-more (modifier_map_line c.args.name.now) inv.0 w.of.result.now) (inv.2 ⨟ w.write_mapped.ensures),
          )
      | else-left-eq1 w ↦
          rw (w.buffered-is, w.out-is)
          (inv.0, chosen_no (mask c.args.mods) c.loop-bit.left mod_names c.loop-bit.bit inv.0 within w.if-left-eq1.false inv.1, inv.2)
    ]

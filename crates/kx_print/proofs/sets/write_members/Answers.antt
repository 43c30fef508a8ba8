use Rattle.std.proofs.Common.{◌<◌, [], ◌∷◌, ◌++◌, codes, length, arith}
use Rattle.kx_print.specs.Masks.{names_of}
use Rattle.kx_print.proofs.Chosen.{chosen_no, chosen_yes}
use Rattle.kx_print.proofs.Listing.{listed_more}
use Rattle.kx_print.proofs.sets.write_members.Goals as goal
use Rattle.kx_print.proofs.sets.write_members.Goals.{then-left-eq1, else-left-eq1}

pub loop-bit-preserved : goal.loop-bit-preserved
loop-bit-preserved g c =
    let inv = c.loop-bit.invariant in
    let names = names_of c.args.names in
    let within : c.loop-bit.bit < length names = omega (arith, c.count-bit-end.ensures, c.loop-bit-test.true) in
    elim c.if-left-eq1.branch [
      | then-left-eq1 w ↦
          rw (w.buffered-is, w.out-is, w.before-is) (
            inv.0 ++ w.of.result.now ∷ [],
            chosen_yes c.args.bits c.loop-bit.left names c.loop-bit.bit w.of.result.now inv.0 w.of.ensures w.if-left-eq1.true inv.1,
            listed_more g.O.Out.written g.O.Out.failures (codes "+") c.args.out.now c.loop-bit.out w.write_member.new.out c.args.buffered.now c.loop-bit.buffered w.write_member.new.buffered c.loop-bit.before.now inv.0 w.of.result.now inv.2 w.write_member.ensures,
          )
      | else-left-eq1 w ↦
          rw (w.buffered-is, w.out-is, w.before-is)
          (inv.0, chosen_no c.args.bits c.loop-bit.left names c.loop-bit.bit inv.0 within w.if-left-eq1.false inv.1, inv.2)
    ]

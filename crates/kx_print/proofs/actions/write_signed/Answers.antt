use Rattle.std.proofs.Common.{◌++◌, ◌∙◌, codes, decimal, ap, arith, pos, unsigned_abs, w8, ◌<ℤ◌, ◌≤ℤ◌}
use Rattle.std.proofs.lemmas.Int.{ints, to_z-of_z}
use Rattle.kx_print.proofs.Signs.{back, forth}
use Rattle.kx_print.proofs.Writing.{◌⨟◌, rewritten}
use Rattle.kx_print.proofs.actions.write_signed.Goals as goal

pub returns-then-by-lt0 : goal.returns-then-by-lt0
returns-then-by-lt0 g c =
    let below : c.args.by <ℤ pos 0 = omega (arith, ints) in
    rewritten (ap (λ n. codes "-" ++ decimal n) (c.from.ensures ∙ c.unsigned_abs.ensures.value ∙ ap unsigned_abs (to_z-of_z w8 c.args.by c.ranges.by)) ∙ back c.args.by below) (c.write.ensures ⨟ c.write_number.ensures)

pub returns-else-by-lt0 : goal.returns-else-by-lt0
returns-else-by-lt0 g c =
    let least : pos 0 ≤ℤ c.args.by = omega (arith, ints) in
    rewritten (ap (λ n. codes "+" ++ decimal n) (c.from-else-by-lt0.ensures ∙ c.unsigned_abs-else-by-lt0.ensures.value ∙ ap unsigned_abs (to_z-of_z w8 c.args.by c.ranges.by)) ∙ forth c.args.by least) (c.write-else-by-lt0.ensures ⨟ c.write_number-else-by-lt0.ensures)

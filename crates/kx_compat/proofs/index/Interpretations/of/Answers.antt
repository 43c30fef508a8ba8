use Rattle.std.proofs.Common.{arith}
use Rattle.std.proofs.lemmas.Grind.{common_steps}
use Rattle.kx_compat.specs.Indexed.{IsIndexed}
use Rattle.kx_compat.proofs.index.Interpretations.of.Goals as goal

pub invariant_of-result : goal.invariant_of-result
invariant_of-result c =
    let gathered : IsIndexed (λ b. b) c.keep_choices-2.new.named.entries c.keep_choices.new.self c.args.all.items = grind (arith, common_steps) in
    c.in_ok-named.ensures.indexed c.keep_choices.new.self c.args.all.items gathered

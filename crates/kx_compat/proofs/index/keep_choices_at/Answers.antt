use Rattle.std.proofs.Common.{Some, ap, sym, ◌∙◌}
use Rattle.kx_compat.proofs.Kept.{same_value}
use Rattle.kx_compat.proofs.index.keep_choices_at.Goals as goal

pub returns-clause-same : goal.returns-clause-same
returns-clause-same c = same_value c.args.named.now c.args.place c.keep_choices.new.self (c.value_mut.ensures.value ∙ ap Some (sym c.keep_choices.ensures.same))

use Rattle.std.proofs.Common.{ap, fold, sym, ◌∙◌}
use Rattle.kx_key_fields.specs.VirtualMasks.{with_term}
use Rattle.kx_key_fields.proofs.Going.{no_ok}
use Rattle.kx_key_fields.proofs.Virtual.{none_stays}
use Rattle.kx_key_fields.proofs.masks.virtual_mask.Goals as goal

pub returns-in_err-first-clause-value : goal.returns-in_err-first-clause-value
returns-in_err-first-clause-value c =
    let names = c.args.names.now.names in
    let rest = c.args.expression.now.rest in
    no_ok c.from_residual.result c.in_err-first.field-0.0 c.from_residual.ensures.1
    ∙ sym (ap (λ t. fold (with_term names) t rest) (sym c.in_err-first.ensures.value) ∙ none_stays names rest)

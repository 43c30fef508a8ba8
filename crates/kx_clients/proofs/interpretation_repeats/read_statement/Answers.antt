use Rattle.std.proofs.Common.{ap, subst, sym, ◌∙◌}
use Rattle.std.specs.Option.{option_map}
use Rattle.kx_merge.specs.Records.{AreOffered}
use Rattle.kx_clients.specs.InterpretationRepeats.{truth_offers}
use Rattle.kx_merge.specs.Plain.{plain_form}
use Rattle.kx_clients.specs.Records.{truth_cell}
use Rattle.kx_clients.proofs.interpretation_repeats.read_statement.Goals as goal

pub returns-in_ok-records-in-Some-clause-records : goal.returns-in_ok-records-in-Some-clause-records
returns-in_ok-records-in-Some-clause-records c = λ mode.
    subst (λ i. AreOffered mode (plain_form truth_cell) c.in_ok-records-in-Some.records.items (truth_offers c.args.context.now.table.now c.args.context.now.names.now.names c.args.default mode i))
    (sym (ap (option_map (λ i. (i.symbol.now, i.predicate.now, i.fields.now))) c.in-Some.is) ∙ c.interpretation_in.ensures) (c.in_ok-records-in-Some.ensures.records mode)

use Rattle.std.proofs.Common.{Bool, Option, ap, refl}
use Rattle.kx_compat.specs.Matches.{match_of}
use Rattle.kx_merge.proofs.Offered.{given_offered}
use Rattle.kx_merge.specs.Last.{last_given}
use Rattle.kx_clients.specs.InterpretationRepeats.{field_truth}
use Rattle.kx_merge.specs.Plain.{plain_form}
use Rattle.kx_merge.specs.declared.plain.Plain.{Plain}
use Rattle.kx_clients.specs.Records.{truth_cell}
use Rattle.kx_clients.specs.declared.interpretation_repeats.SaidOfMatch.{SaidOfMatch}
use Rattle.kx_clients.proofs.interpretation_repeats.read_interpretation.Goals as goal

pub returns-clause-records : goal.returns-clause-records
returns-clause-records c = λ mode.
    let record_of : Option Bool → Plain SaidOfMatch = λ s. record { values = record { said = s } } in
    let i = c.args.written.now in
    given_offered (plain_form truth_cell) mode (λ r g. refl) (λ v. v.items) c.records_for.result c.in_ok-key.key (match_of c.args.context.now.keysyms.now i.symbol.now i.predicate.now) (record_of c.last_truth.result) (record_of (last_given field_truth c.args.default i.fields.now))
    c.in_ok-key.ensures.value (ap record_of c.last_truth.ensures) c.records_for.ensures.records

use Rattle.std.proofs.Common.{ap, subst, sym, ◌∙◌}
use Rattle.std.specs.Option.{option_map}
use Rattle.kx_merge.specs.Records.{AreOffered}
use Rattle.kx_clients.specs.KeyRepeats.{key_offers}
use Rattle.kx_merge.specs.Plain.{plain_form}
use Rattle.kx_clients.specs.Records.{repeat_cell}
use Rattle.kx_clients.proofs.key_repeats.read_statement.Goals as goal

pub returns-in_ok-records-in-Some-clause-records : goal.returns-in_ok-records-in-Some-clause-records
returns-in_ok-records-in-Some-clause-records c = λ mode.
    subst (λ k. AreOffered mode (plain_form repeat_cell) c.in_ok-records-in-Some.records.items (key_offers c.args.codes.now c.args.default mode k))
    (sym (ap (option_map (λ k. (k.0.now, k.1.now))) c.in-Some.is) ∙ c.key_in.ensures) (c.in_ok-records-in-Some.ensures.records mode)

use Rattle.std.proofs.Common.{Option, ap, refl, ◌∙◌}
use Rattle.kx_codes.specs.Codes.{code_of}
use Rattle.kx_merge.proofs.Offered.{given_offered}
use Rattle.kx_merge.specs.Last.{last_given}
use Rattle.kx_clients.specs.KeyRepeats.{field_repeat}
use Rattle.kx_merge.specs.Plain.{plain_form}
use Rattle.kx_merge.specs.declared.plain.Plain.{Plain}
use Rattle.kx_clients.specs.Records.{repeat_cell}
use Rattle.kx_clients.specs.declared.key_repeat.KeyRepeat.{KeyRepeat}
use Rattle.kx_clients.specs.declared.key_repeats.SaidOfKey.{SaidOfKey}
use Rattle.kx_clients.proofs.key_repeats.read_key.Goals as goal

pub returns-clause-records : goal.returns-clause-records
returns-clause-records c = λ mode.
    let record_of : Option KeyRepeat → Plain SaidOfKey = λ s. record { values = record { said = s } } in
    given_offered (plain_form repeat_cell) mode (λ r g. refl) (λ v. v.items) c.records_for.result c.code_of.result (code_of c.args.codes.now c.args.name.now.bytes) (record_of c.last_repeat.result) (record_of (last_given field_repeat c.args.default c.args.fields.now))
    (c.code_of.ensures ∙ ap (code_of c.args.codes.now) c.as_slice-2.ensures.value) (ap record_of (c.last_repeat.ensures ∙ ap (last_given field_repeat c.args.default) c.as_slice.ensures)) c.records_for.ensures.records

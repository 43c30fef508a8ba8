use Rattle.std.proofs.Common.{ap, sym, ◌∙◌}
use Rattle.kx_codes.specs.Codes.{code_of}
use Rattle.kx_symbols.specs.Keys.{key_offer}
use Rattle.kx_symbols.proofs.Statements.{key_given}
use Rattle.kx_symbols.proofs.keys.read_key.Goals as goal

pub returns-in-Some-clause-records : goal.returns-in-Some-clause-records
returns-in-Some-clause-records c = λ mode. key_given (λ v. v.items) c.args.known.now c.args.fields.now mode c.in-Some.code (code_of c.args.codes.now c.args.name.now.bytes) c.one_record.result
    (sym (c.code_of.ensures ∙ ap (code_of c.args.codes.now) c.as_slice-2.ensures.value) ∙ c.in-Some.is)
    (c.one_record.ensures.records mode (key_offer c.args.known.now c.args.fields.now mode c.in-Some.code) (c.in_ok-key.ensures.offered mode c.in-Some.code))

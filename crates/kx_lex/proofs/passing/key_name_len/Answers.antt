use Rattle.std.proofs.Common.{◌∙◌, ap, sym}
use Rattle.std.specs.Prelude.{slice_index}
use Rattle.kx_lex.proofs.PassedOver.{key_name-piece}
use Rattle.kx_lex.proofs.passing.key_name_len.Goals as goal

pub returns-else-byte_at-ne62-clause-exact : goal.returns-else-byte_at-ne62-clause-exact
returns-else-byte_at-ne62-clause-exact c =
    rw c.key_len-len.ensures.exact (key_name-piece c.args.bytes.now c.in-Some.first.now c.in-Some.left.now c.in-Some.ensures.cases.0 c.if-first-eq60.true
    (ap (slice_index c.in-Some.left.now) (sym c.key_len-len.ensures.exact) ∙ sym c.byte_at.ensures ∙ c.if-byte_at-ne62.false))

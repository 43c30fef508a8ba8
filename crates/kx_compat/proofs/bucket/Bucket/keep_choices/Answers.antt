use Rattle.std.proofs.Common.{true, false, IfSome, subst}
use Rattle.kx_compat.specs.Indexed.{AreChoices}
use Rattle.kx_compat.proofs.bucket.Bucket.keep_choices.Goals as goal

pub invariant_of-self : goal.invariant_of-self
invariant_of-self c = subst (λ is. IfSome c.in_ok-self-inside.field-0 (λ k. AreChoices is true k.first.items × AreChoices is false k.others.items)) c.as_slice.ensures.value c.in_ok-self-inside.ensures.choices

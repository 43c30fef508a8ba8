use Rattle.std.proofs.Common.{sym, ◌∙◌}
use Rattle.std.proofs.lemmas.Option.{same_Some}
use Rattle.kx_resolve.proofs.resolving.names_apart.Goals as goal

pub returns : goal.returns
returns c = λ code other name is also. same_Some code other (sym ((c.name_of-agree.ensures.agree name code).1 is) ∙ (c.name_of-agree.ensures.agree name other).1 also)

use Rattle.kx_merge.proofs.Given.{nothing_offered}
use Rattle.kx_merge.proofs.single.none_given.Goals as goal

pub returns : goal.returns
returns g c = λ mode. nothing_offered mode c.new.result.items c.new.ensures.items

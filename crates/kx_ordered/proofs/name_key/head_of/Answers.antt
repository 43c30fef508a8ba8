use Rattle.std.proofs.Common.{rules}
use Rattle.kx_ordered.specs.Names.{head_of}
use Rattle.kx_ordered.proofs.name_key.head_of.Goals as goal

pub returns : goal.returns
unfolding head_of
returns c = search rules

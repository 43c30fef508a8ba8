use Rattle.std.proofs.Common.{refl}
use Rattle.kx_lex.specs.Starts.{start_of}
use Rattle.kx_lex.proofs.start.starts.Goals as goal

pub returns : goal.returns
unfolding start_of
returns c = refl

use Rattle.std.proofs.Common.{refl}
use Rattle.kx_lex.specs.Keywords.{spellings}
use Rattle.kx_lex.proofs.keyword.lengths.Goals as goal

pub returns : goal.returns
unfolding spellings
returns c = record { long = refl; each = refl }

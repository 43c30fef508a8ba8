use Rattle.std.proofs.Common.{refl}
use Rattle.kx_lex.proofs.Keywords.{by_length}
use Rattle.kx_lex.specs.Keywords.{spellings}
use Rattle.kx_lex.proofs.keyword.by_length.Goals as goal

pub returns : goal.returns
unfolding spellings
returns c = by_length _ refl

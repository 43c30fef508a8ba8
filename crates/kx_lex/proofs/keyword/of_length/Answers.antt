use Rattle.std.proofs.Common.{refl, sym, arith}
use Rattle.kx_lex.specs.Keywords.{spellings}
use Rattle.kx_lex.proofs.Keywords.{none_longer}
use Rattle.kx_lex.proofs.keyword.of_length.Goals as goal

pub returns-else-len-tables : goal.returns-else-len-tables
unfolding spellings
returns-else-len-tables c = sym (none_longer 22 c.args.len spellings refl (omega (arith, c.by_length-tables.ensures.long)))

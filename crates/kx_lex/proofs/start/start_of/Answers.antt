use Rattle.std.proofs.Common.{arith}
use Rattle.std.proofs.lemmas.List.FromFn.{get_or-map-range_with_len}
use Rattle.kx_lex.specs.Starts.{start_of}
use Rattle.kx_lex.specs.declared.start.Start.TheVariants.{Word}
use Rattle.kx_lex.proofs.start.start_of.Goals as goal

pub returns : goal.returns
returns c = rw c.starts.ensures (get_or-map-range_with_len start_of 0 256 c.from.result c.args.byte Word (omega arith) (omega arith))

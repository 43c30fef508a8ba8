use Rattle.kx_print.proofs.Writing.{◌⨟◌}
use Rattle.kx_print.proofs.symbols.write_symbols.Goals as goal

pub returns : goal.returns
returns g c = c.write.ensures ⨟ c.write_each_symbol.ensures ⨟ c.write-2.ensures

use Rattle.ks_core.proofs.NamedLemmas.{sound-written_back}
use Rattle.ks_core.specs.Table.{table_of}
use Rattle.ks_core.proofs.names.NameTable.further_keysym.Goals as goal

pub returns-clause-within : goal.returns-clause-within
returns-clause-within c = sound-written_back (table_of c.self.inside.further).names c.args.name.now c.keysym_of.result c.self.invariant c.keysym_of.ensures

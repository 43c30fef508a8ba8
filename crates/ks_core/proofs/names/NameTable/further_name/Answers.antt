use Rattle.ks_core.proofs.NamedLemmas.{sound-named}
use Rattle.ks_core.specs.Table.{table_of}
use Rattle.ks_core.proofs.names.NameTable.further_name.Goals as goal

pub returns-clause-sound : goal.returns-clause-sound
returns-clause-sound c = sound-named (table_of c.self.inside.further).names c.args.keysym c.name_of.result c.self.invariant c.name_of.ensures.first

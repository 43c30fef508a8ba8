use Rattle.kx_source.proofs.Ending.{has_fault_of, means_of}
use Rattle.kx_source.proofs.compiling.tables.Goals as goal

pub returns-clause-means : goal.returns-clause-means
returns-clause-means c = means_of c.args.source.now c.args.files.now c.args.names.now c.in_ok-library.library c.in_ok-library.ensures.read c.tables_of.result c.tables_of.ensures.whole c.tables_of.ensures.faultless c.tables_of.ensures.holds c.tables_of.ensures.keymap

pub returns-clause-fault : goal.returns-clause-fault
returns-clause-fault c = has_fault_of c.args.source.now c.args.files.now c.args.names.now c.in_ok-library.library c.in_ok-library.ensures.read c.tables_of.result c.tables_of.ensures.fault

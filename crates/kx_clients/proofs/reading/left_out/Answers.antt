use Rattle.kx_clients.proofs.Ending.{has_fault_of, left_of}
use Rattle.kx_clients.proofs.reading.left_out.Goals as goal

pub returns-clause-left : goal.returns-clause-left
returns-clause-left c = left_of c.args.source.now c.args.files.now c.args.names.now c.in_ok-library.library c.in_ok-library.ensures.read c.left_out_of.result c.left_out_of.ensures.whole c.left_out_of.ensures.are

pub returns-clause-fault : goal.returns-clause-fault
returns-clause-fault c = has_fault_of c.args.source.now c.args.files.now c.args.names.now c.in_ok-library.library c.in_ok-library.ensures.read c.left_out_of.result c.left_out_of.ensures.fault

use Rattle.kx_clients.proofs.interpretation_repeats.SaidOfMatchPlainRecordContext.read.Goals as goal

pub returns-clause-records : goal.returns-clause-records
returns-clause-records c = c.read_statement.ensures.records c.args.placed.now.stated.now.mode

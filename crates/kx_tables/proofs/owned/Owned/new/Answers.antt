use Rattle.std.proofs.Common.{rules}
use Rattle.kx_tables.specs.RawTables.{content_of}
use Rattle.kx_tables.proofs.Fitting.{refusal_unsound}
use Rattle.kx_tables.proofs.owned.Owned.new.Goals as goal

pub returns-in_err-rows-clause-unsound : goal.returns-in_err-rows-clause-unsound
returns-in_err-rows-clause-unsound c = refusal_unsound (content_of c.args.parts) c.from_residual.result (search rules)

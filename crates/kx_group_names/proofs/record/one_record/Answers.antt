use Rattle.std.proofs.Common.{refl}
use Rattle.kx_group_names.proofs.record.one_record.Goals as goal

pub returns-clause-records : goal.returns-clause-records
returns-clause-records c = λ mode. c.one_given.ensures.records mode c.args.group c.args.text.now refl c.in_ok-text.ensures

use Rattle.kx_merge.proofs.Given.{one_offered}
use Rattle.kx_merge.proofs.single.one_given.Goals as goal

pub returns-clause-records : goal.returns-clause-records
returns-clause-records g c = λ mode name given named valued.
    one_offered mode c.push.new.self.items c.new-records.result.items c.args.key name c.args.value given c.in_ok-push.ensures.items c.new-records.ensures.items named valued

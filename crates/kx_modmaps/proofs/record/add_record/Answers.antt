use Rattle.kx_mods.specs.Mods.{mask}
use Rattle.kx_modmaps.proofs.Given.{added}
use Rattle.kx_modmaps.proofs.record.add_record.Goals as goal

pub returns-clause-added : goal.returns-clause-added
returns-clause-added c = λ mode os are. added mode c.args.records.now.items c.push.new.self.items os (mask c.args.mods) c.args.target.now (record { values = c.of-values.result }) are c.in_ok-push.ensures.items c.of-values.ensures

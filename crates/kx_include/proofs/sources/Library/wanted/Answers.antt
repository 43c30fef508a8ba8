use Rattle.kx_include.proofs.Wanting.{all-closed-in}
use Rattle.kx_include.proofs.sources.Library.wanted.Goals as goal

pub returns : goal.returns
returns c = all-closed-in c.args.self.now c.all.result c.all.ensures

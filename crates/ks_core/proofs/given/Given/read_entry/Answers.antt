use Rattle.ks_core.proofs.LinesLemmas.{not_given}
use Rattle.ks_core.proofs.given.Given.read_entry.Goals as goal

pub add-requires : goal.add-requires
add-requires c = not_given c.args.self.now c.args.name.now c.in-None.ensures

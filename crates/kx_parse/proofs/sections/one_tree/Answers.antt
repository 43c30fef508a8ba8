use Rattle.kx_parse.proofs.Trees.{Spells-one, SpellsFile-one}
use Rattle.kx_parse.proofs.sections.one_tree.Goals as goal

pub returns-clause-source : goal.returns-clause-source
returns-clause-source c = Spells-one

pub returns-clause-file : goal.returns-clause-file
returns-clause-file c = SpellsFile-one

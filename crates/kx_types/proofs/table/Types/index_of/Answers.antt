use Rattle.std.proofs.Common.{sym, ◌∙◌}
use Rattle.kx_types.proofs.NamesShown.{place_is}
use Rattle.kx_types.proofs.table.Types.index_of.Goals as goal

pub returns-clause-value : goal.returns-clause-value
returns-clause-value c = c.place_of_short_name.ensures.value ∙ sym (place_is c.args.name.now c.args.self.now c.self.inside.by_name.entries c.self.view_is)

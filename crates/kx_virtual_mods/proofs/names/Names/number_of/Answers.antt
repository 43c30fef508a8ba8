use Rattle.std.proofs.Common.{ap, ◌∙◌}
use Rattle.std.specs.List.{position}
use Rattle.std.specs.Str.{bytes_eq}
use Rattle.kx_virtual_mods.proofs.names.Names.number_of.Goals as goal

pub returns-clause-value : goal.returns-clause-value
returns-clause-value c = c.place_of_owned_name.ensures.value ∙ ap (position (bytes_eq c.args.name.now)) c.self.view_is

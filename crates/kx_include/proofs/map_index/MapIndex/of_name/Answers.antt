use Rattle.std.proofs.Common.{None, Some, ap, sym, ◌∙◌}
use Rattle.std.specs.Option.{option_copied}
use Rattle.kx_include.proofs.Indexing.{look_is}
use Rattle.kx_include.proofs.map_index.MapIndex.of_name.Goals as goal

pub returns-in-None : goal.returns-in-None
returns-in-None c = λ kind. c.new.ensures kind ∙ look_is c.self.inside.named.entries c.args.self.now.named c.of.result c.args.name.now None (ap (λ i. i.named) c.self.view_is) c.of.ensures (sym c.get.ensures.value ∙ ap option_copied c.in-None.is) kind

pub returns-in-Some : goal.returns-in-Some
returns-in-Some c = λ kind. look_is c.self.inside.named.entries c.args.self.now.named c.of.result c.args.name.now (Some c.in-Some.maps.now) (ap (λ i. i.named) c.self.view_is) c.of.ensures (sym c.get.ensures.value ∙ ap option_copied c.in-Some.is) kind

use Rattle.std.proofs.Common.{ap, ◌∙◌}
use Rattle.kx_include.proofs.Indexing.{named_put}
use Rattle.kx_include.specs.MapIndex.{named_in}
use Rattle.kx_include.proofs.map_index.MapIndex.add_named.Goals as goal

pub returns-clause-named : goal.returns-clause-named
returns-clause-named c = named_put c.self.inside.named.entries c.insert.new.self.entries c.args.self.now.named c.in_ok-of.field-0 c.of_name.result c.with-maps.result c.args.section.now c.in-Some.name c.args.number
    (ap (λ i. i.named) c.self.view_is) c.in-Some.is (c.in_ok-of.ensures ∙ c.as_slice-name.ensures) c.in_ok-insert.ensures.entries c.with-maps.ensures
    (λ kind. c.of_name.ensures kind ∙ ap (λ bytes. named_in kind bytes c.args.self.now.named) c.as_slice-name.ensures)

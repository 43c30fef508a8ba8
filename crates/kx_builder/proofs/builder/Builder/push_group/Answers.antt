use Rattle.std.proofs.Common.{◌≡◌, [], OnOk, refl, ap, ◌∙◌, rules}
use Rattle.kx_builder.proofs.Pushing.{group_grown, push_kept, push_seen}
use Rattle.kx_builder.specs.Added.{next_group}
use Rattle.kx_builder.specs.Placed.{content_of_resolved}
use Rattle.kx_builder.specs.Pushes.{with_group}
use Rattle.kx_builder.specs.Resolved.{ResolvedGroup}
use Rattle.kx_tables.specs.RawTables.{content_of}
use Rattle.kx_tables.specs.declared.rows.GroupRow.{GroupRow}
use Rattle.kx_builder.proofs.builder.Builder.push_group.Goals as goal
use Rattle.kx_builder.proofs.builder.Builder.push_group.Goals.{After-add_group}

abbrev pushed : After-add_group → ResolvedGroup
pushed c = record { key_type = c.args.key_type; cells = [] }

held : (c : After-add_group) → content_of c.self.inside.parts ≡ content_of_resolved c.args.self.now
held c = c.self.invariant ∙ ap content_of_resolved c.self.view_is

abbrev row : After-add_group → GroupRow
row c = record { key_type = c.args.key_type; first_cell = c.in_ok-place.field-0 }

row_is : (c : After-add_group) → row c ≡ next_group (content_of c.self.inside.parts) (pushed c)
row_is c = search rules

grown : (c : After-add_group) → OnOk c.add_group.result (content_of c.add_group.new.parts ≡ content_of_resolved (with_group c.args.self.now (pushed c)))
grown c = group_grown c.add_group.result (content_of c.self.inside.parts) (content_of c.add_group.new.parts) c.args.self.now (pushed c) (row c) (held c) refl (row_is c) c.add_group.ensures.some_key c.add_group.ensures.added

pub invariant_of-self : goal.invariant_of-self
invariant_of-self c = push_kept c.add_group.result (content_of c.self.inside.parts) (content_of c.add_group.new.parts) c.args.self.now (with_group c.args.self.now (pushed c)) (held c) (grown c) c.add_group.ensures.unchanged

pub returns-clause-pushed : goal.returns-clause-pushed
returns-clause-pushed c = push_seen c.add_group.result (content_of c.add_group.new.parts) (with_group c.args.self.now (pushed c)) (grown c)

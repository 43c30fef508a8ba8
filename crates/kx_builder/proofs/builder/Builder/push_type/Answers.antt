use Rattle.std.proofs.Common.{◌≡◌, OnOk, length, ap, ◌∙◌, rules}
use Rattle.kx_builder.proofs.Pushing.{push_kept, push_seen, type_grown}
use Rattle.kx_builder.specs.Placed.{content_of_resolved}
use Rattle.kx_builder.specs.Pushes.{with_type}
use Rattle.kx_builder.specs.Resolved.{ResolvedType}
use Rattle.kx_tables.specs.RawTables.{content_of}
use Rattle.kx_builder.proofs.builder.Builder.push_type.Goals as goal
use Rattle.kx_builder.proofs.builder.Builder.push_type.Goals.{After-add_type}

abbrev pushed : After-add_type → ResolvedType
pushed c = record { name = c.args.name.now; mods = c.args.mods; levels = c.args.levels; entries = c.args.entries.now }

held : (c : After-add_type) → content_of c.self.inside.parts ≡ content_of_resolved c.args.self.now
held c = c.self.invariant ∙ ap content_of_resolved c.self.view_is

grown : (c : After-add_type) → OnOk c.add_type.result (content_of c.add_type.new.parts ≡ content_of_resolved (with_type c.args.self.now (pushed c)))
grown c =
    let none : length c.self.inside.parts.keys.items ≡ 0 = search rules in
    type_grown c.add_type.result (content_of c.self.inside.parts) (content_of c.add_type.new.parts) c.args.self.now (pushed c) c.in_ok-row.row (held c) none c.in_ok-row.ensures.value c.add_type.ensures.added

pub invariant_of-self : goal.invariant_of-self
invariant_of-self c = push_kept c.add_type.result (content_of c.self.inside.parts) (content_of c.add_type.new.parts) c.args.self.now (with_type c.args.self.now (pushed c)) (held c) (grown c) c.add_type.ensures.unchanged

pub returns-clause-pushed : goal.returns-clause-pushed
returns-clause-pushed c = push_seen c.add_type.result (content_of c.add_type.new.parts) (with_type c.args.self.now (pushed c)) (grown c)

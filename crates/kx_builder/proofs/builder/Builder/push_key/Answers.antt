use Rattle.std.proofs.Common.{◌≡◌, [], OnOk, refl, ap, ◌∙◌}
use Rattle.kx_builder.proofs.Pushing.{key_grown, push_kept, push_seen}
use Rattle.kx_builder.specs.Placed.{content_of_resolved}
use Rattle.kx_builder.specs.Pushes.{with_key}
use Rattle.kx_builder.specs.Resolved.{ResolvedKey}
use Rattle.kx_tables.specs.RawTables.{content_of}
use Rattle.kx_builder.proofs.builder.Builder.push_key.Goals as goal
use Rattle.kx_builder.proofs.builder.Builder.push_key.Goals.{After-add_key}

abbrev pushed : After-add_key → ResolvedKey
pushed c = record { code = c.args.code; name = c.args.name.now; modmap = c.args.modmap; range = c.args.range; groups = [] }

held : (c : After-add_key) → content_of c.self.inside.parts ≡ content_of_resolved c.args.self.now
held c = c.self.invariant ∙ ap content_of_resolved c.self.view_is

grown : (c : After-add_key) → OnOk c.add_key.result (content_of c.add_key.new.parts ≡ content_of_resolved (with_key c.args.self.now (pushed c)))
grown c = key_grown c.add_key.result (content_of c.self.inside.parts) (content_of c.add_key.new.parts) c.args.self.now (pushed c) c.in_ok-row.row (held c) refl c.in_ok-row.ensures.value c.add_key.ensures.added

pub invariant_of-self : goal.invariant_of-self
invariant_of-self c = push_kept c.add_key.result (content_of c.self.inside.parts) (content_of c.add_key.new.parts) c.args.self.now (with_key c.args.self.now (pushed c)) (held c) (grown c) c.add_key.ensures.unchanged

pub returns-clause-pushed : goal.returns-clause-pushed
returns-clause-pushed c = push_seen c.add_key.result (content_of c.add_key.new.parts) (with_key c.args.self.now (pushed c)) (grown c)

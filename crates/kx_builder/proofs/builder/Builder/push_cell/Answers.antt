use Rattle.std.proofs.Common.{◌≡◌, ◌<◌, OnOk, length, ap, ◌∙◌, arith, rules}
use Rattle.kx_builder.proofs.Pushing.{cell_grown, last_count_is, push_kept, push_seen}
use Rattle.kx_builder.specs.Added.{last_count}
use Rattle.kx_builder.specs.Placed.{content_of_resolved}
use Rattle.kx_builder.specs.Pushes.{last_groups, with_cell}
use Rattle.kx_builder.specs.Resolved.{ResolvedCell}
use Rattle.kx_tables.specs.RawTables.{content_of}
use Rattle.kx_builder.proofs.builder.Builder.push_cell.Goals as goal
use Rattle.kx_builder.proofs.builder.Builder.push_cell.Goals.{After-add_cell}

abbrev pushed : After-add_cell → ResolvedCell
pushed c = record { syms = c.args.keysyms.now; action = c.args.action }

held : (c : After-add_cell) → content_of c.self.inside.parts ≡ content_of_resolved c.args.self.now
held c = c.self.invariant ∙ ap content_of_resolved c.self.view_is

grown : (c : After-add_cell) → OnOk c.add_cell.result (content_of c.add_cell.new.parts ≡ content_of_resolved (with_cell c.args.self.now (pushed c)))
grown c =
    let some : 0 < last_count c.self.inside.parts.keys.items = search rules in
    cell_grown c.add_cell.result (content_of c.self.inside.parts) (content_of c.add_cell.new.parts) c.args.self.now (pushed c) c.in_ok-row.row (held c) some c.in_ok-row.ensures.value c.add_cell.ensures.added

pub invariant_of-self : goal.invariant_of-self
invariant_of-self c = push_kept c.add_cell.result (content_of c.self.inside.parts) (content_of c.add_cell.new.parts) c.args.self.now (with_cell c.args.self.now (pushed c)) (held c) (grown c) c.add_cell.ensures.unchanged

pub returns-clause-pushed : goal.returns-clause-pushed
returns-clause-pushed c = push_seen c.add_cell.result (content_of c.add_cell.new.parts) (with_cell c.args.self.now (pushed c)) (grown c)

pub returns-then-last_count-eq0-clause-fault : goal.returns-then-last_count-eq0-clause-fault
returns-then-last_count-eq0-clause-fault c = λ has.
    let is : last_count c.self.inside.parts.keys.items ≡ length (last_groups c.args.self.now.keys) = last_count_is (content_of c.self.inside.parts) c.args.self.now (c.self.invariant ∙ ap content_of_resolved c.self.view_is) in
    let none : last_count c.self.inside.parts.keys.items ≡ 0 = search rules in
    omega (arith, is, none, has)

use Rattle.kx_tree.proofs.PassedForms.{some-map}
use Rattle.kx_tree.proofs.PassedStatements.{field-off, field-on}
use Rattle.kx_tree.proofs.passing_statements.pass_field.Goals as goal

pub returns-then-front_is-clause-passes : goal.returns-then-front_is-clause-passes
returns-then-front_is-clause-passes c = some-map c.pass_place_behind.result (λ rest. field-off c.in_ok-place.ensures.passes c.in_ok-behind.ensures.passes) c.pass_place_behind.ensures.passes

pub returns-clause-passes : goal.returns-clause-passes
returns-clause-passes c = some-map c.pass_field_behind.result (λ rest. field-on c.in_ok-behind-2.ensures.passes) c.pass_field_behind.ensures.passes

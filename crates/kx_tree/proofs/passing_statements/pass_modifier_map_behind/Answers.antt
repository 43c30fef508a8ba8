use Rattle.kx_tree.proofs.PassedForms.{some-map}
use Rattle.kx_tree.proofs.PassedStatements.{entries-mapped, modifier_map-passes}
use Rattle.kx_tree.proofs.passing_statements.pass_modifier_map_behind.Goals as goal

pub returns-clause-passes : goal.returns-clause-passes
returns-clause-passes c = some-map c.pass_mark-3.result (λ rest. modifier_map-passes c.in_ok-open.ensures.passes c.in_ok-entries.ensures.passes (entries-mapped c.in_ok-close.ensures.passes) c.in_ok-end.ensures.passes) c.pass_mark-3.ensures.passes

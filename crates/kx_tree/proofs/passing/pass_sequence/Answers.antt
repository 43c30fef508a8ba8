use Rattle.kx_tree.proofs.PassedForms.{sequence-passes, some-map}
use Rattle.kx_tree.proofs.passing.pass_sequence.Goals as goal

pub returns-clause-passes : goal.returns-clause-passes
returns-clause-passes g c = some-map c.pass_more.result (λ rest. sequence-passes c.in_ok-first.ensures.passes) c.pass_more.ensures.passes

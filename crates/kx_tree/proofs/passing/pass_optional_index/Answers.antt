use Rattle.std.proofs.Common.{◌∙◌, sym}
use Rattle.kx_tree.proofs.PassedForms.{some-map}
use Rattle.kx_tree.proofs.PassedValues.{optional-none, optional_index-some}
use Rattle.kx_tree.specs.Values.{index}
use Rattle.kx_tree.proofs.passing.pass_optional_index.Goals as goal

pub returns-then-front_is-clause-passes : goal.returns-then-front_is-clause-passes
returns-then-front_is-clause-passes c = some-map c.pass_index.result (λ rest. optional_index-some) c.pass_index.ensures.passes

pub returns-clause-passes : goal.returns-clause-passes
returns-clause-passes c = optional-none index 91 c.args.bytes.now c.requires (sym c.front_is.ensures ∙ c.if-front_is.false)

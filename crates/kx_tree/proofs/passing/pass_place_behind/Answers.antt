use Rattle.std.proofs.Common.{◌∙◌, sym}
use Rattle.kx_tree.proofs.PassedForms.{both-passes, some-map}
use Rattle.kx_tree.proofs.PassedValues.{optional-none, optional_member-some}
use Rattle.kx_tree.specs.Values.{member}
use Rattle.kx_tree.proofs.passing.pass_place_behind.Goals as goal

pub returns-then-front_is-clause-passes : goal.returns-then-front_is-clause-passes
returns-then-front_is-clause-passes c = some-map c.pass_optional_index.result (λ rest. both-passes (optional_member-some c.in_ok-index.ensures.passes)) c.pass_optional_index.ensures.passes

pub returns-clause-passes : goal.returns-clause-passes
returns-clause-passes c = some-map c.pass_optional_index-2.result (λ rest. both-passes (optional-none member 46 c.args.bytes.now c.requires (sym c.front_is.ensures ∙ c.if-front_is.false))) c.pass_optional_index-2.ensures.passes

use Rattle.std.proofs.Common.{◌∙◌, sym}
use Rattle.kx_parse.proofs.PassedSections.{deeper-in, deeper-out, deeper-token}
use Rattle.kx_parse.proofs.outline.pass_deeper.Goals as goal

pub returns-then-front_is-clause-passes : goal.returns-then-front_is-clause-passes
returns-then-front_is-clause-passes c = λ end. deeper-in c.in_ok-rest.ensures.passes

pub returns-then-not-front_is-clause-passes : goal.returns-then-not-front_is-clause-passes
returns-then-not-front_is-clause-passes c = λ end. deeper-token c.requires.at (sym c.front_is.ensures ∙ c.if-front_is.false) (sym c.front_is-2.ensures ∙ c.if-not-front_is.true) c.in_ok-rest-2.ensures.passes

pub returns-clause-passes : goal.returns-clause-passes
returns-clause-passes c = λ end. deeper-out c.if-depth-eq0.false c.in_ok-rest-3.ensures.passes

use Rattle.std.proofs.Common.{◌∙◌, sym}
use Rattle.kx_parse.proofs.PassedSections.{optional_text-none, optional_text-some}
use Rattle.kx_parse.proofs.outline.pass_optional_name.Goals as goal

pub returns-then-not-front_is-clause-passes : goal.returns-then-not-front_is-clause-passes
returns-then-not-front_is-clause-passes c = optional_text-none c.args.text.now c.args.bytes.now c.requires.at (sym c.front_is.ensures ∙ c.if-not-front_is.true)

pub returns-in-Some-clause-passes : goal.returns-in-Some-clause-passes
returns-in-Some-clause-passes c = optional_text-some c.args.text.now c.in-Some.name (rw c.in-Some.is at c.in_ok-name.ensures.passes)

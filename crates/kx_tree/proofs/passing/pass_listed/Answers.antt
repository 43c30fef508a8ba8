use Rattle.std.proofs.Common.{◌∙◌, sym}
use Rattle.kx_tree.proofs.PassedForms.{listed-none, listed-some, some-map}
use Rattle.kx_tree.proofs.passing.pass_listed.Goals as goal

pub returns-then-front_is-clause-passes : goal.returns-then-front_is-clause-passes
returns-then-front_is-clause-passes g c = some-map c.pass_mark.result (λ rest. listed-none g.P.Passed.production c.args.close) c.pass_mark.ensures.passes

pub returns-clause-passes : goal.returns-clause-passes
returns-clause-passes g c = some-map c.pass_mark-2.result (λ rest. listed-some g.P.Passed.production c.args.close c.requires.at (sym c.front_is.ensures ∙ c.if-front_is.false) c.in_ok-end.ensures.within c.in_ok-end.ensures.passes) c.pass_mark-2.ensures.passes

use Rattle.std.proofs.Common.{◌≡◌, get_or, arith}
use Rattle.kx_rule_lines.specs.Lines.{is_value}
use Rattle.kx_rule_lines.specs.Pieces.{pieces}
use Rattle.kx_rule_lines.specs.declared.scan.Kind.TheVariants.{Equals}
use Rattle.kx_rules.proofs.PassedRules.{behind_one, behind_sign}
use Rattle.kx_rules.proofs.skipping.behind_equals.Goals as goal

pub returns-in-61-clause-value : goal.returns-in-61-clause-value
returns-in-61-clause-value c =
    let is : get_or c.behind_blanks-front.result.now 0 0 ≡ 61 = omega arith in
    c.values.invariant.same _ (behind_sign c.behind_blanks-front.result.now c.in-61.len_at_least (pieces c.values.rest.now 0) is c.behind_blanks-front.ensures.same)

pub values-preserved : goal.values-preserved
values-preserved c = record {
  same = λ found behind. c.values.invariant.same found (behind_one is_value Equals (pieces c.values.rest.now 0) (pieces c.behind_blanks-front.result.now 0) (pieces c.in-Some.behind.now 0) found c.behind_blanks-front.ensures.same c.in-Some.ensures.value behind);
  within = omega (arith, c.in-Some.ensures.shorter);
}

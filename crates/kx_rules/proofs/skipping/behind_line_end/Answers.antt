use Rattle.std.proofs.Common.{◌≡◌, get_or, arith}
use Rattle.kx_rule_lines.specs.Lines.{is_word}
use Rattle.kx_rule_lines.specs.Pieces.{pieces}
use Rattle.kx_rule_lines.specs.declared.scan.Kind.TheVariants.{NewLine}
use Rattle.kx_rules.proofs.PassedRules.{behind_one, behind_end}
use Rattle.kx_rules.proofs.skipping.behind_line_end.Goals as goal

pub returns-in-10-clause-value : goal.returns-in-10-clause-value
returns-in-10-clause-value c =
    let is : get_or c.behind_blanks-front.result.now 0 0 ≡ 10 = omega arith in
    c.words.invariant.same _ (behind_end c.behind_blanks-front.result.now c.in-10.len_at_least (pieces c.words.rest.now 0) is c.behind_blanks-front.ensures.same)

pub words-preserved : goal.words-preserved
words-preserved c = record {
  same = λ found behind. c.words.invariant.same found (behind_one is_word NewLine (pieces c.words.rest.now 0) (pieces c.behind_blanks-front.result.now 0) (pieces c.in-Some.behind.now 0) found c.behind_blanks-front.ensures.same c.in-Some.ensures.value behind);
  within = omega (arith, c.in-Some.ensures.shorter);
}

use Rattle.std.proofs.Common.{◌≡◌}
use Rattle.kx_rule_lines.specs.Lines.{is_word}
use Rattle.kx_rule_lines.specs.Pieces.{pieces}
use Rattle.kx_rules.specs.Rules.{lines_of, run}
use Rattle.kx_rules.specs.Steps.{IsBehind}
use Rattle.kx_rule_lines.specs.declared.scan.Kind.TheVariants.{NewLine}
use Rattle.kx_rules.proofs.PassedRules.{behind_rule, some_then}
use Rattle.kx_rules.proofs.skipping.behind_rule.Goals as goal

pub returns-clause-value : goal.returns-clause-value
returns-clause-value c = λ names inc s over. some_then c.behind_line_end.result (λ r. IsBehind is_word NewLine (pieces c.in_ok-right.right.now 0) (pieces r.now 0)) (λ r. run names inc s (lines_of r.now) ≡ run names inc s (lines_of c.args.text.now)) (λ r b. behind_rule (pieces c.args.text.now 0) (pieces c.in_ok-right.right.now 0) (pieces r.now 0) c.in_ok-right.ensures.value b names inc s over) c.behind_line_end.ensures.value

use Rattle.std.proofs.Common.{◌≡◌, Option, Some, subst}
use Rattle.kx_lex.specs.declared.keyword.Keyword.{Keyword}
use Rattle.kx_lex.specs.declared.keyword.Keyword.TheVariants as keywords
use Rattle.kx_tree.proofs.PassedForms.{some-map}
use Rattle.kx_tree.proofs.PassedStatements.{indicator_name-word, word-as}
use Rattle.kx_tree.proofs.passing_statements.pass_indicator_name.Goals as goal

at-some : (word : Option Keyword) (k wanted : Keyword) → word ≡ Some k → k ≡ wanted → word ≡ Some wanted
at-some word k wanted is same = subst (λ (x : Keyword). word ≡ Some x) same is

pub returns-in-Some-Indicator-clause-passes : goal.returns-in-Some-Indicator-clause-passes
returns-in-Some-Indicator-clause-passes c =
    let is = at-some c.in_ok-word.word c.in-Some-Indicator.field-0 keywords.Indicator c.in-Some-Indicator.is (rw c.in-Some-Indicator.is at c.in-Some-Indicator.field-0-is) in
    some-map c.pass_indicator_name_behind.result (λ rest. indicator_name-word (word-as is c.in_ok-word.ensures.passes)) c.pass_indicator_name_behind.ensures.passes

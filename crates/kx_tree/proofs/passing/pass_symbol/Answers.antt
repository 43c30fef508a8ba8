use Rattle.kx_tree.proofs.PassedForms.{some-map}
use Rattle.kx_tree.proofs.PassedValues.{symbol-number, symbol-word}
use Rattle.kx_tree.proofs.passing.pass_symbol.Goals as goal

pub returns-then-front_is_digit-clause-passes : goal.returns-then-front_is_digit-clause-passes
returns-then-front_is_digit-clause-passes c = some-map c.pass_number.result (λ rest. symbol-number) c.pass_number.ensures.passes

pub returns-clause-passes : goal.returns-clause-passes
returns-clause-passes c = some-map c.pass_word.result (λ rest. symbol-word) c.pass_word.ensures.passes

use Rattle.kx_tree.proofs.PassedForms.{some-map}
use Rattle.kx_tree.proofs.PassedValues.{term-key_name, term-number, term-signed, term-text, term-word}
use Rattle.kx_tree.proofs.passing.pass_term.Goals as goal

pub returns-then-front_is_word-clause-passes : goal.returns-then-front_is_word-clause-passes
returns-then-front_is_word-clause-passes c = some-map c.pass_word.result (λ rest. term-word) c.pass_word.ensures.passes

pub returns-then-front_is_sign-clause-passes : goal.returns-then-front_is_sign-clause-passes
returns-then-front_is_sign-clause-passes c = some-map c.pass_signed.result (λ rest. term-signed) c.pass_signed.ensures.passes

pub returns-then-front_is-clause-passes : goal.returns-then-front_is-clause-passes
returns-then-front_is-clause-passes c = some-map c.pass_text.result (λ rest. term-text) c.pass_text.ensures.passes

pub returns-then-front_is-2-clause-passes : goal.returns-then-front_is-2-clause-passes
returns-then-front_is-2-clause-passes c = some-map c.pass_key_name.result (λ rest. term-key_name) c.pass_key_name.ensures.passes

pub returns-clause-passes : goal.returns-clause-passes
returns-clause-passes c = some-map c.pass_number.result (λ rest. term-number) c.pass_number.ensures.passes

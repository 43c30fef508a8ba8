use Rattle.kx_tree.proofs.PassedForms.{some-map}
use Rattle.kx_tree.proofs.PassedStatements.{entry-key_name, entry-symbol}
use Rattle.kx_tree.proofs.passing_statements.pass_entry.Goals as goal

pub returns-then-front_is-clause-passes : goal.returns-then-front_is-clause-passes
returns-then-front_is-clause-passes c = some-map c.pass_key_name.result (λ rest. entry-key_name) c.pass_key_name.ensures.passes

pub returns-clause-passes : goal.returns-clause-passes
returns-clause-passes c = some-map c.pass_symbol.result (λ rest. entry-symbol) c.pass_symbol.ensures.passes

use Rattle.std.proofs.Common.{arith, sym, ◌∙◌}
use Rattle.kx_rules.proofs.PassedRules.{plain_word}
use Rattle.kx_rules.proofs.skipping.behind_word.Goals as goal

pub returns-in-len1-up-clause-value : goal.returns-in-len1-up-clause-value
returns-in-len1-up-clause-value c = plain_word c.args.text.now c.split_at.result.1.now c.word_len.result (omega arith) (sym c.begins_plain.ensures ∙ c.if-begins_plain.true) c.word_len.ensures.value c.split_at.ensures.back

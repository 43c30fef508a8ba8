use Rattle.std.proofs.Common.{sym, ◌∙◌, subst}
use Rattle.kx_rules.specs.Steps.{IsTaken}
use Rattle.kx_rules.proofs.Telling.{inclusion_word}
use Rattle.kx_rules.proofs.state.State.take_include.Goals as goal

pub returns-in-Word : goal.returns-in-Word
returns-in-Word c = λ names. subst (λ line. IsTaken names c.args.texts.now c.args.depth line c.args.self.now c.take_name.new.self c.take_name.result) (sym (inclusion_word c.args.line.now c.piece-item.result c.text.result.now c.in-len1-up.len_at_least c.piece-item.is (sym c.kind.ensures ∙ c.in-Word.is) c.text.ensures)) (c.take_name.ensures names)

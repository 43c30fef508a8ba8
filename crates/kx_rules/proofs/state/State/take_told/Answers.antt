use Rattle.std.proofs.Common.{◌-◌, drop, length, take, refl, sym, ◌∙◌, subst}
use Rattle.kx_rules.specs.Rules.{included}
use Rattle.kx_rules.specs.Steps.{IsTaken}
use Rattle.kx_rules.proofs.Telling.{cut_taken, told_group, told_include}
use Rattle.kx_rules.proofs.state.State.take_told.Goals as goal

pub returns-in-Include : goal.returns-in-Include
returns-in-Include c = subst (λ line. IsTaken c.args.names.now c.args.texts.now c.args.depth line c.args.self.now c.take_include.new.self c.take_include.result) (sym (told_include c.args.line.now (take (length c.args.line.now - 1) (drop 1 c.args.line.now)) c.piece-item.result c.in-len1-up.len_at_least c.piece-item.is refl (sym c.kind.ensures ∙ c.in-Include.is))) (c.take_include.ensures c.args.names.now)

pub returns-in_ok-take_group-in-Group : goal.returns-in_ok-take_group-in-Group
returns-in_ok-take_group-in-Group c = subst (λ line. IsTaken c.args.names.now c.args.texts.now c.args.depth line c.args.self.now c.take_group.new.self c.at.result) (sym (told_group c.args.line.now (take (length c.args.line.now - 1) (drop 1 c.args.line.now)) c.piece-item.result c.text.result.now c.in-len1-up.len_at_least c.piece-item.is refl (sym c.kind.ensures ∙ c.in-Group.is) c.text.ensures)) (cut_taken c.args.names.now c.args.texts.now c.args.depth _ c.args.self.now c.take_group.new.self c.in_ok-take_group-in-Group.field-0 c.at.result c.at.ensures (c.in_ok-take_group-in-Group.ensures (included c.args.depth c.args.names.now c.args.texts.now)))

use Rattle.std.proofs.Common.{◌∙◌, sym}
use Rattle.kx_run.proofs.TableReads.{code_found, key_groups}
use Rattle.kx_run.proofs.player.Player.answer.Goals as goal

pub look_up_chosen-found-requires-clause-within : goal.look_up_chosen-found-requires-clause-within
look_up_chosen-found-requires-clause-within g c =
    let content = g.T.Rows.content c.self.inside.tables in
    key_groups content c.args.code c.in-Some.key c.key_count-sound.ensures.sound (sym (c.key.ensures content c.self.invariant.told_keys) ∙ c.in-Some.is)

pub apply-requires-clause-code : goal.apply-requires-clause-code
apply-requires-clause-code g c =
    let content = g.T.Rows.content c.self.inside.tables in
    code_found content c.args.code c.in-Some.key c.key_count-sound.ensures.sound (sym (c.key.ensures content c.self.invariant.told_keys) ∙ c.in-Some.is)

use Rattle.std.proofs.Common.{◌∙◌, sym}
use Rattle.kx_run.proofs.TableReads.{key_groups}
use Rattle.kx_run.proofs.follower.Follower.look.Goals as goal

pub look_up-found-requires : goal.look_up-found-requires
look_up-found-requires g c =
    key_groups (g.T.Rows.content c.self.inside.tables) c.args.code c.in-Some.key c.key_count-sound.ensures.sound (sym c.key_of.ensures ∙ c.in-Some.is)

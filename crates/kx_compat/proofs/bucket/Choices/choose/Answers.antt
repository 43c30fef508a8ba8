use Rattle.std.proofs.Common.{true, false, ap, filter, sym, ◌∙◌}
use Rattle.kx_mods.specs.Mods.{mask}
use Rattle.kx_compat.specs.Choosing.{allows, least}
use Rattle.kx_compat.proofs.bucket.Choices.choose.Goals as goal

pub returns-then-first_level : goal.returns-then-first_level
returns-then-first_level c = λ is first others. c.kept.ensures is true first ∙ ap (λ b. least (filter (allows b (mask c.args.modmap)) is)) (sym c.if-first_level.true)

pub returns-else-first_level : goal.returns-else-first_level
returns-else-first_level c = λ is first others. c.kept-else-first_level.ensures is false others ∙ ap (λ b. least (filter (allows b (mask c.args.modmap)) is)) (sym c.if-first_level.false)

use Rattle.std.proofs.Common.{true, false, IfSome, ap, filter, subst, ◌∙◌}
use Rattle.kx_mods.specs.Mods.{mask}
use Rattle.kx_compat.specs.Choosing.{allows, least}
use Rattle.kx_compat.specs.Indexed.{AreChoices}
use Rattle.kx_compat.proofs.bucket.Bucket.choose.Goals as goal

pub returns-in-Some : goal.returns-in-Some
returns-in-Some c =
    let is = c.self.inside.all.items in
    let are = subst (λ o. IfSome o (λ k. AreChoices is true k.first.items × AreChoices is false k.others.items)) c.in-Some.is c.self.invariant in
    c.choose.ensures is are.0 are.1 ∙ ap (λ is. least (filter (allows c.args.first_level (mask c.args.modmap)) is)) c.self.view_is

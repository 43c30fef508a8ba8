use Rattle.std.proofs.Common.{ap, ◌∙◌}
use Rattle.std.proofs.lemmas.Cmp.{tied_itself}
use Rattle.kx_ordered.specs.Names.{name_cmp, name_cmp_total}
use Rattle.kx_ordered.proofs.short_name.ShortNameTableKey.again.Goals as goal

pub returns : goal.returns
returns c = ap (λ n. name_cmp n c.args.self.now) c.copied.ensures ∙ tied_itself name_cmp_total c.args.self.now

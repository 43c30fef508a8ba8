use Rattle.std.proofs.Common.{sym, ap, ◌∙◌}
use Rattle.kx_lines.specs.EventLines.{Kept}
use Rattle.kx_lines.proofs.EventLemmas.{long_is_other}
use Rattle.kx_lines.proofs.event.Line.said.Goals as goal

pub returns-then-self : goal.returns-then-self
returns-then-self c = λ line keeps. long_is_other line (keeps.long (sym (ap (λ (k : Kept). k.is_long) c.self.view_is) ∙ c.if-self.true))

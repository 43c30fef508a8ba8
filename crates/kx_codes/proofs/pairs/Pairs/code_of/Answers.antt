use Rattle.std.proofs.Common.{ap, sym, ◌∙◌}
use Rattle.kx_codes.specs.Numbers.{number}
use Rattle.kx_codes.specs.Pairs.{code_in}
use Rattle.kx_codes.proofs.NumberMaps.{code_numbered}
use Rattle.kx_codes.proofs.pairs.Pairs.code_of.Goals as goal

pub returns : goal.returns
returns c = c.copied.ensures ∙ c.get.ensures.value ∙ sym (code_numbered c.self.inside.codes.entries c.args.name) ∙ ap (λ m. code_in m.by_name (number c.args.name)) c.self.view_is

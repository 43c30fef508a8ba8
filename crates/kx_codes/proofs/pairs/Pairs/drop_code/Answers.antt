use Rattle.std.proofs.Common.{None, cond, ap, ◌∙◌}
use Rattle.std.specs.Str.{bytes_eq}
use Rattle.kx_codes.specs.Numbers.{number}
use Rattle.kx_codes.specs.Pairs.{code_in}
use Rattle.kx_codes.proofs.NumberMaps.{removed_numbered}
use Rattle.kx_codes.proofs.pairs.Pairs.drop_code.Goals as goal

pub returns-in-Some-clause-dropped : goal.returns-in-Some-clause-dropped
returns-in-Some-clause-dropped c = rw c.in-Some.is
    (λ n. removed_numbered c.self.inside.codes.entries c.swap_remove.new.self.entries c.in-Some.name c.swap_remove.ensures.updates.1 c.swap_remove.ensures.updates.3 n
    ∙ ap (λ m. cond (bytes_eq (number c.in-Some.name) n) None (code_in m.by_name n)) c.self.view_is)

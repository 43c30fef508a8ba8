use Rattle.std.proofs.Common.{None, cond, nat_eq, ap, ◌∙◌}
use Rattle.kx_codes.specs.Pairs.{name_in}
use Rattle.kx_codes.proofs.NumberMaps.{numbers_removed}
use Rattle.kx_codes.proofs.pairs.Pairs.drop_name.Goals as goal

pub returns-in-Some-clause-dropped : goal.returns-in-Some-clause-dropped
returns-in-Some-clause-dropped c = rw c.in-Some.is
    (λ d. numbers_removed c.self.inside.names.entries c.swap_remove.new.self.entries c.in-Some.code c.swap_remove.ensures.updates.1 c.swap_remove.ensures.updates.3 d
    ∙ ap (λ m. cond (nat_eq c.in-Some.code d) None (name_in m.by_code d)) c.self.view_is)

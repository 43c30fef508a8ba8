use Rattle.std.proofs.Common.{nat_eq, length, sym, ap, subst, ◌∙◌}
use Rattle.std.specs.List.{IsDistinct}
use Rattle.kx_codes.proofs.NumberMaps.{keys_numbers, length_numbers}
use Rattle.kx_codes.proofs.Standing.{length-coded, own_stands}
use Rattle.kx_codes.specs.Numbers.{with_numbers}
use Rattle.kx_codes.proofs.pairs.Pairs.len.Goals as goal

pub returns-clause-len : goal.returns-clause-len
returns-clause-len c = c.len.ensures.len ∙ sym (length-coded (with_numbers c.self.inside.names.entries) ∙ length_numbers c.self.inside.names.entries) ∙ ap (λ m. length m.by_code) c.self.view_is

pub returns-clause-own : goal.returns-clause-own
returns-clause-own c = λ ps s. own_stands (with_numbers c.self.inside.names.entries) (subst (IsDistinct nat_eq) (keys_numbers c.self.inside.names.entries) c.len.ensures.unique) c.args.self.now (ap (λ m. m.by_code) c.self.view_is) ps s

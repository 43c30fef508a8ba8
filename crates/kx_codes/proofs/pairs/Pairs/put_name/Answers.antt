use Rattle.std.proofs.Common.{Some, cond, nat_eq, sym, ap, ◌∙◌, option_map}
use Rattle.kx_codes.specs.Numbers.{number}
use Rattle.kx_codes.specs.Pairs.{name_in}
use Rattle.kx_codes.proofs.NumberMaps.{look_numbers, numbers_put}
use Rattle.kx_codes.proofs.pairs.Pairs.put_name.Goals as goal

pub returns-clause-before : goal.returns-clause-before
returns-clause-before c = ap (option_map number) c.in_ok-insert.ensures.old ∙ sym (look_numbers c.self.inside.names.entries c.args.code) ∙ ap (λ m. name_in m.by_code c.args.code) c.self.view_is

pub returns-clause-put : goal.returns-clause-put
returns-clause-put c = λ d.
    numbers_put c.self.inside.names.entries c.insert.new.self.entries c.args.code c.args.name c.in_ok-insert.ensures.entries d
    ∙ ap (λ m. cond (nat_eq c.args.code d) (Some (number c.args.name)) (name_in m.by_code d)) c.self.view_is

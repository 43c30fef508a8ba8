use Rattle.std.proofs.Common.{sym, ap, subst, ◌∙◌}
use Rattle.std.specs.Option.{option_map}
use Rattle.kx_basics.specs.KeyNames.{IsKeyName}
use Rattle.kx_codes.proofs.Names.{valid_at}
use Rattle.kx_codes.proofs.numbers.Names.name.Goals as goal

pub returns-in-Some-clause-valid : goal.returns-in-Some-clause-valid
returns-in-Some-clause-valid c = subst IsKeyName (sym c.as_slice.ensures) (valid_at IsKeyName c.self.inside.names.entries c.args.number (c.in-Some.key.now, c.in-Some.field-0-1.now) c.self.invariant (sym c.at.ensures ∙ ap (option_map (λ e. (e.0.now, e.1.now))) c.in-Some.is))

use Rattle.std.proofs.Common.{Some, sym, ap, ◌∙◌}
use Rattle.std.specs.Option.{option_copied}
use Rattle.kx_codes.specs.Pairs.{name_in}
use Rattle.kx_codes.proofs.Entries.{name_coded}
use Rattle.kx_codes.proofs.named.NamesByCode.name.Goals as goal

pub returns-in-None-clause-value : goal.returns-in-None-clause-value
returns-in-None-clause-value c = ap option_copied (sym c.in-None.is) ∙ c.get.ensures.value ∙ sym (name_coded c.self.inside.names.entries c.args.code) ∙ ap (λ m. name_in m c.args.code) c.self.view_is

pub returns-in-Some-clause-value : goal.returns-in-Some-clause-value
returns-in-Some-clause-value c = ap Some c.as_slice.ensures.value ∙ ap option_copied (sym c.in-Some.is) ∙ c.get.ensures.value ∙ sym (name_coded c.self.inside.names.entries c.args.code) ∙ ap (λ m. name_in m c.args.code) c.self.view_is

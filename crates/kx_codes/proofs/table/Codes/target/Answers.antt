use Rattle.std.proofs.Common.{ap, sym, ◌∙◌, None, Some}
use Rattle.std.specs.Option.{option_copied}
use Rattle.kx_codes.proofs.Targets.{target_is}
use Rattle.kx_codes.proofs.table.Codes.target.Goals as goal

pub returns-in-None : goal.returns-in-None
returns-in-None c = sym (target_is c.args.name.now c.args.self.now.aliases c.self.inside.aliases.entries None (ap (λ v. v.aliases) c.self.view_is) (sym c.value_of_short_name.ensures ∙ ap option_copied c.in-None.is))

pub returns-in-None-value : goal.returns-in-None-value
returns-in-None-value c = sym (target_is c.args.name.now c.args.self.now.aliases c.self.inside.aliases.entries (Some c.in-Some.alias.now) (ap (λ v. v.aliases) c.self.view_is) (sym c.value_of_short_name.ensures ∙ ap option_copied c.in-Some.is) ∙ c.in-None-value.is)

pub returns-in-Some-value : goal.returns-in-Some-value
returns-in-Some-value c = sym (target_is c.args.name.now c.args.self.now.aliases c.self.inside.aliases.entries (Some c.in-Some.alias.now) (ap (λ v. v.aliases) c.self.view_is) (sym c.value_of_short_name.ensures ∙ ap option_copied c.in-Some.is) ∙ c.in-Some-value.is ∙ ap Some (sym c.as_slice.ensures.value))

use Rattle.std.proofs.Common.{ap, sym, ◌∙◌, None, Some}
use Rattle.std.specs.Option.{option_copied}
use Rattle.kx_types.proofs.NamesShown.{named_is}
use Rattle.kx_types.proofs.table.Types.named.Goals as goal

pub returns-in-Some : goal.returns-in-Some
returns-in-Some c = c.as_ref.ensures.value ∙ sym (named_is c.args.name.now c.args.self.now c.self.inside.by_name.entries (Some c.in-Some.declared.now) c.self.view_is (sym c.value_of_short_name.ensures ∙ ap option_copied c.in-Some.is))

pub returns-in-None : goal.returns-in-None
returns-in-None c = sym (named_is c.args.name.now c.args.self.now c.self.inside.by_name.entries None c.self.view_is (sym c.value_of_short_name.ensures ∙ ap option_copied c.in-None.is))

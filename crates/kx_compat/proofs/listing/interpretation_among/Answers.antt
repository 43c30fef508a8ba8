use Rattle.std.proofs.Common.{Some, ap, sym, ◌∙◌}
use Rattle.std.specs.Option.{option_copied}
use Rattle.kx_compat.proofs.Listed.{recorded}
use Rattle.kx_compat.proofs.listing.interpretation_among.Goals as goal

pub returns-in-Some : goal.returns-in-Some
returns-in-Some c = recorded c.args.records.now c.args.named.now.0 (Some c.in-Some.record.now) c.interpretation_with.result (sym (ap option_copied c.in-Some.is) ∙ c.get.ensures.value) c.interpretation_with.ensures

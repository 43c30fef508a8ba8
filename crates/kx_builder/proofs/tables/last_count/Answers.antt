use Rattle.std.proofs.Common.{◌≡◌, ◌-◌, Some, length, slice_get, sym, ap, ◌∙◌}
use Rattle.std.specs.Option.{option_copied}
use Rattle.kx_builder.proofs.Lasts.{last_is}
use Rattle.kx_builder.proofs.tables.last_count.Goals as goal

pub returns-in-Some : goal.returns-in-Some
returns-in-Some c =
    let at : Some c.in-Some.key.now ≡ slice_get c.deref.result.now (length c.deref.result.now - 1) = ap option_copied (sym c.in-Some.is) ∙ c.last.ensures.value in
    last_is c.args.parts.now.keys.items c.in-Some.key.now (at ∙ (λ i. slice_get (c.deref.ensures.value i) (length (c.deref.ensures.value i) - 1)))

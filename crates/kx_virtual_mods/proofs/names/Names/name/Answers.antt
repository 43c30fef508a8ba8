use Rattle.std.proofs.Common.{Some, slice_get, ap, sym, ◌∙◌}
use Rattle.std.specs.Option.{option_map}
use Rattle.kx_virtual_mods.proofs.Keyed.{found_key}
use Rattle.kx_virtual_mods.proofs.names.Names.name.Goals as goal

pub returns-in-Some : goal.returns-in-Some
returns-in-Some c =
    let es = c.self.inside.numbers.entries in
    let n = c.args.number in
    ap Some c.as_slice.ensures
    ∙ ap (λ o. option_map (λ e. e.0) (option_map (λ e. (e.0.now, e.1.now)) o)) (sym c.in-Some.is)
    ∙ ap (option_map (λ e. e.0)) c.at.ensures
    ∙ sym (found_key es n)
    ∙ ap (λ names. slice_get names n) c.self.view_is

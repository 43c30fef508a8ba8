use Rattle.std.proofs.Common.{◌≡◌, IfOk, ap, subst, ◌∙◌}
use Rattle.std.specs.List.{flat_map}
use Rattle.kx_types.specs.Types.{names_in, type_named}
use Rattle.kx_virtual_mods.specs.Sets.{real_of}
use Rattle.kx_virtual_mods.specs.Standing.{stands_for}
use Rattle.kx_clients.specs.DeclaredTypes.{defined_type}
use Rattle.kx_clients.proofs.Lists.{stands_all}
use Rattle.kx_clients.proofs.declared_types.declared_types.Goals as goal

pub returns : goal.returns
returns c =
    let types = c.args.types.now in
    subst (λ stands. IfOk c.all_declared.result (λ declared. declared.items ≡ flat_map (defined_type (real_of stands) (type_named types)) (names_in types)))
    (ap stands_for (c.as_slice.ensures.value ∙ c.in_ok-stands.ensures) ∙ stands_all c.args.modifiers.now) c.all_declared.ensures

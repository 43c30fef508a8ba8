use Rattle.std.proofs.Common.{◌≡◌, ℕ, All, Bor, List, map, take}
use Rattle.kx_builder.specs.IndicatorMaps.{GroupNameIsValid}
use Rattle.kx_resolve.proofs.lighting.names_in_order.Given as goal

abbrev pub invariant-groups : goal.invariant-groups
invariant-groups l =
    (map (λ (g : Bor (List ℕ)). g.now) l.names.items ≡ take l.group l.group_names)
    × All GroupNameIsValid (take l.group l.group_names)

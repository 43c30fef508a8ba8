use Rattle.std.proofs.Common.{◌≡◌, drop, filter, fold}
use Rattle.std.specs.Option.{option_map}
use Rattle.kx_mods.specs.Mods.{mask}
use Rattle.kx_compat.specs.Choosing.{allows, earlier, least}
use Rattle.kx_compat.proofs.choice.least_allowed.Given as goal

abbrev pub invariant-interpretations : goal.invariant-interpretations
invariant-interpretations l = least (filter (allows l.first_level (mask l.modmap)) l.interpretations) ≡ fold earlier (option_map (λ i. i.now) l.least) (filter (allows l.first_level (mask l.modmap)) (drop l.interpretation-index l.interpretations))

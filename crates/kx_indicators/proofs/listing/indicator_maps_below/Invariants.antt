use Rattle.std.proofs.Common.{◌≡◌, ◌<◌, ℕ, Some, length}
use Rattle.std.specs.List.{slice_get}
use Rattle.kx_indicators.specs.Shown.{indicator_map_recorded}
use Rattle.kx_indicators.proofs.listing.indicator_maps_below.Given as goal

abbrev pub invariant-numbers : goal.invariant-numbers
invariant-numbers l = (length l.indicator_maps.items ≡ l.number) × ((number : ℕ) → number < l.number → slice_get l.indicator_maps.items number ≡ Some (indicator_map_recorded l.records number))

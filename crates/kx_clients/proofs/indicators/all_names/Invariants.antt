use Rattle.std.proofs.Common.{◌≡◌, ◌<◌, ◌+◌, ℕ, length}
use Rattle.kx_clients.specs.IndicatorNames.{name_at, name_recorded}
use Rattle.kx_clients.proofs.indicators.all_names.Given as goal

abbrev pub invariant-indicators : goal.invariant-indicators
invariant-indicators l = (length l.names.items ≡ l.place) × ((place : ℕ) → place < l.place → name_at l.names.items place ≡ name_recorded l.records (place + 1))

use Rattle.std.proofs.Common.{◌≡◌, ◌<◌, ℕ, false, get_or, length}
use Rattle.kx_clients.specs.Read.{read_repeats}
use Rattle.kx_clients.proofs.repeating.ReadKeys.repeating.Given as goal

abbrev pub invariant-codes : goal.invariant-codes
invariant-codes l = record {
  count : length l.all.items ≡ l.code;
  are : (k : ℕ) → k < l.code → get_or l.all.items k false ≡ read_repeats l.self k;
}

use Rattle.std.proofs.Common.{◌≡◌, ◌<◌, ℕ}
use Rattle.kx_clients.specs.LeftOut.{repeats}
use Rattle.kx_client_text.proofs.alike.repeat_alike.Given as goal

abbrev pub invariant-codes : goal.invariant-codes
invariant-codes l = (code : ℕ) → code < l.code → repeats l.one code ≡ repeats l.other code

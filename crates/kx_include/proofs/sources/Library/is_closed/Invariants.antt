use Rattle.std.proofs.Common.{ℕ, ◌<◌}
use Rattle.kx_include.specs.Held.{IsClosedIn}
use Rattle.kx_include.proofs.sources.Library.is_closed.Given as goal

abbrev pub invariant-texts : goal.invariant-texts
invariant-texts l = record { closed : (file : ℕ) → file < l.file → IsClosedIn l.self l.wanted file }

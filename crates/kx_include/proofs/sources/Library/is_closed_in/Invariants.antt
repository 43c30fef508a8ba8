use Rattle.std.proofs.Common.{ℕ, ◌<◌}
use Rattle.kx_include.specs.Held.{IsClosedAt}
use Rattle.kx_include.proofs.sources.Library.is_closed_in.Given as goal

abbrev pub invariant-sections : goal.invariant-sections
invariant-sections l = record { closed : (n : ℕ) → n < l.section → IsClosedAt l.self l.wanted l.file n }

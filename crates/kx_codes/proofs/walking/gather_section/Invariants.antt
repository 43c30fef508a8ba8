use Rattle.std.proofs.Common.{List, drop}
use Rattle.kx_include.specs.Expansion.{Body, End}
use Rattle.kx_include.specs.Shared.{entries_body, shared_body}
use Rattle.kx_codes.specs.Gathering.{AreGathered}
use Rattle.kx_codes.specs.Numbers.{Grows, IsOnce, StandsIn}
use Rattle.kx_codes.proofs.Behind.{Going}
use Rattle.kx_codes.proofs.walking.gather_section.Given as goal

abbrev pub invariant-entries : goal.invariant-entries
invariant-entries l = ((bodies : List Body) → AreGathered l.initial.names l.done bodies → Going (StandsIn l.initial.names l.initial.gathered) l.names l.gathered (shared_body bodies l.section End) (entries_body bodies l.section.place (drop l.entry-index l.section.entries.items) End))
    × (IsOnce l.initial.names → Grows l.initial.names l.names)

use Rattle.std.proofs.Common.{◌≡◌, List, [], drop}
use Rattle.kx_include.specs.Expansion.{Body}
use Rattle.kx_include.specs.Shared.{shared_sections}
use Rattle.kx_codes.specs.Gathering.{AreGathered}
use Rattle.kx_codes.specs.Numbers.{Grows, IsOnce}
use Rattle.kx_codes.proofs.Behind.{Going}
use Rattle.kx_codes.proofs.walking.gather_sections.Given as goal

abbrev pub invariant-sections : goal.invariant-sections
invariant-sections l = ((bodies : List Body) → AreGathered l.initial.names l.done bodies → Going (λ ps. ps ≡ []) l.names l.gathered (shared_sections bodies l.sections) (shared_sections bodies (drop l.section-index l.sections)))
    × (IsOnce l.initial.names → Grows l.initial.names l.names)

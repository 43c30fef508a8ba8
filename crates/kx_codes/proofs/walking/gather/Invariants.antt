use Rattle.std.proofs.Common.{◌≡◌, List, [], drop}
use Rattle.kx_include.specs.Expansion.{Body}
use Rattle.kx_include.specs.Shared.{bodies_behind}
use Rattle.kx_codes.specs.Gathering.{AreGathered}
use Rattle.kx_codes.specs.Numbers.{Grows, IsOnce}
use Rattle.kx_codes.proofs.walking.gather.Given as goal

abbrev pub invariant-maps : goal.invariant-maps
invariant-maps l = (IsOnce l.initial.names → (bodies : List Body) × AreGathered l.names l.done.items bodies × (bodies_behind bodies (drop l.map-index l.expansion.maps.items) ≡ bodies_behind [] l.expansion.maps.items))
    × (IsOnce l.initial.names → Grows l.initial.names l.names)

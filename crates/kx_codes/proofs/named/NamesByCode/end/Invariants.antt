use Rattle.std.proofs.Common.{take}
use Rattle.kx_codes.proofs.Ends.{Reached}
use Rattle.kx_codes.proofs.named.NamesByCode.end.Given as goal

abbrev pub invariant-places : goal.invariant-places
invariant-places l = Reached l.end (take l.place l.self) l.self

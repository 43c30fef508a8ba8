use Rattle.std.proofs.Common.{◌≡◌, drop, take}
use Rattle.kx_ordered.specs.Names.{folded}
use Rattle.kx_ordered.proofs.name_key.head_of.Given as goal

abbrev pub invariant-front : goal.invariant-front
invariant-front l = folded l.head (drop l.byte-index (take 8 l.bytes)) ≡ folded 0 (take 8 l.bytes)

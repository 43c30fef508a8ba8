use Rattle.std.proofs.Common.{◌≡◌, ◌<◌, drop}
use Rattle.std.specs.List.{fold}
use Rattle.ks_core.specs.X11Index.{hash_step}
use Rattle.ks_core.proofs.x11.hash_of.Given as goal

-- the bytes that are left, after the hash so far, give the whole hash
abbrev pub invariant-loop-byte : goal.invariant-loop-byte
invariant-loop-byte l = (fold hash_step 0 l.name ≡ fold hash_step l.hash (drop l.byte-index l.name)) × (l.hash < 4194304)

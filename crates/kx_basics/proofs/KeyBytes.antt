-- Bytes of keys' names are small.
use Rattle.std.proofs.Common.{ℕ, ◌≤◌, ◌==◌, not, nat_le, ◌&&◌}
use Rattle.std.proofs.lemmas.Bool.{and_parts, leb-true}
use Rattle.kx_basics.specs.KeyNames.{IsKeyByte}

pub key_byte_small : (b : ℕ) → IsKeyByte b → b ≤ 126
key_byte_small b is = leb-true b 126 (and_parts (nat_le 33 b) (nat_le b 126) (and_parts (nat_le 33 b && nat_le b 126) (not (b == 62)) is).0).1

-- How many bytes characters take.
use Rattle.std.proofs.Common.{ℕ, ◌≤◌, Bool, true, false, nat_lt, cond, length, arith, lit≤}
use Rattle.std.proofs.lemmas.Str.{length-encode}
use Rattle.std.specs.Char.{encode_utf8}

of_tests : (a b d : Bool) → cond a 1 (cond b 2 (cond d 3 4)) ≤ 4
of_tests true b d = lit≤ tt
of_tests false true d = lit≤ tt
of_tests false false true = lit≤ tt
of_tests false false false = lit≤ tt

pub encode-most : (c : ℕ) → length (encode_utf8 c) ≤ 4
encode-most c = let most = of_tests (nat_lt c 0x80) (nat_lt c 0x800) (nat_lt c 0x1_0000) in omega (arith, length-encode c, most)

-- Keys that are texts, looked up by bytes.
use Rattle.std.proofs.Common.{◌≡◌, ℕ, List, rules}
use Rattle.std.specs.Cmp.Lexicographic.{slice_cmp}
use Rattle.std.specs.Cmp.Rules.{comparing}
use Rattle.std.specs.Ordering.{is_eq, nat_cmp}
use Rattle.std.specs.Str.{bytes_eq}

-- texts that compare as equal are the same bytes
pub bytes_tie : (a b : List ℕ) → bytes_eq a b ≡ is_eq (slice_cmp nat_cmp a b)
bytes_tie = Prim.search (comparing, rules)

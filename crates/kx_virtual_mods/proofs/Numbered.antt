-- The number of a name where each stands once.
use Rattle.std.proofs.Common.{◌≡◌, ℕ, true, List, [], Some, slice_get}
use Rattle.std.proofs.lemmas.List.Folds.{list_any_at}
use Rattle.std.proofs.lemmas.List.Quantifiers.{position-Some}
use Rattle.std.specs.Cmp.Lexicographic.{nat_list_eq_equiv}
use Rattle.std.specs.List.{IsDistinct, list_any, position}
use Rattle.std.specs.Map.{keys_of}
use Rattle.std.specs.Str.{bytes_eq}
use Rattle.indexmap.proofs.MapLemmas.{index-first}
use Rattle.indexmap.proofs.RemoveLemmas.{own_first}

-- a name that stands at a number has that number
pub own_number : {V : Type 0} (es : List (List ℕ × V)) (number : ℕ) (name : List ℕ) (v : V) → IsDistinct bytes_eq (keys_of es) → slice_get es number ≡ Some (name, v) → position (bytes_eq name) (keys_of es) ≡ Some number
own_number es number name v distinct at = index-first (bytes_eq name) es number (own_first bytes_eq nat_list_eq_equiv es number name v distinct at)

-- a name with a number is there
pub numbered_any : (names : List (List ℕ)) (name : List ℕ) (number : ℕ) → position (bytes_eq name) names ≡ Some number → list_any (bytes_eq name) names ≡ true
numbered_any names name number is =
    let at = position-Some (bytes_eq name) names number [] is in
    list_any_at (bytes_eq name) names number [] at.0 at.1

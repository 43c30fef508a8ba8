-- What a sorted list of the built-in names is, in which a keysym is searched.
use Rattle.std.specs.Prelude.{◌≡◌, ℕ, List, Some, All, Any}
use Rattle.std.specs.Borrow.{Bor}
use Rattle.std.specs.List.Sorted.{IsSortedBy}
use Rattle.std.specs.Ordering.{is_lt, nat_cmp}
use Rattle.ks_core.specs.Entry.{name_in}
use Rattle.ks_core.specs.BuiltIn.{built_in}

-- a row of a list: a name and its keysym
abbrev pub Row : Type 0
Row = Bor (List ℕ) × ℕ

-- it rises by keysym, each row is a built-in one, and each keysym with a built-in name has a row
pub record IsKeysymIndex (rows : List Row) : Type 0 where
  pub rising : IsSortedBy (λ a b. is_lt (nat_cmp a.1 b.1)) rows
  pub right : All (λ row. name_in built_in row.1 ≡ Some row.0.now) rows
  pub whole : (name : List ℕ) (keysym : ℕ) → name_in built_in keysym ≡ Some name → Any (λ row. row.1 ≡ keysym) rows

-- The members of a set of items.
use Rattle.std.specs.Prelude.{◌≡◌, List, is_some}
use Rattle.std.specs.List.{list_any}
use Rattle.std.specs.declared.cmp.Ordering.{Ordering}
use Rattle.std.specs.BTreeMap.{BTreeMap, get, is_at}

-- the keys are the items
abbrev pub AreMembers : {T X : Type 0} → (T → T → Ordering) → BTreeMap T X → List T → Type 0
AreMembers {T} cmp members items = (item : T) → is_some (get cmp members item) ≡ list_any (is_at (cmp item)) items

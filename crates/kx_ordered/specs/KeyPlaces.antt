-- Where the keys of entries stand.
use Rattle.std.specs.Prelude.{◌≡◌, ℕ, zero, suc, Bool, List, [], ◌∷◌, Option, Some, None, if◌then◌else◌}
use Rattle.std.specs.declared.cmp.Ordering.{Ordering}
use Rattle.std.specs.declared.cmp.Ordering.TheVariants.{Equal}
use Rattle.std.specs.BTreeMap as tree
use Rattle.std.specs.BTreeMap.{BTreeMap}
use Rattle.std.specs.Option.{option_map, option_or}
use Rattle.kx_ordered.specs.Numbers.{numbered}

-- what compares to a key as equal compares to each key as that one does
abbrev pub Respects : {K : Type 0} → (K → K → Ordering) → (K → Ordering) → Type 0
Respects {K} cmp compare = (x y : K) → compare x ≡ Equal → compare y ≡ cmp x y

-- what compares to no key that has a number as equal
abbrev pub IsUnnumbered : {K : Type 0} → (K → Option ℕ) → (K → Ordering) → Type 0
IsUnnumbered {K} number compare = (k : K) → compare k ≡ Equal → number k ≡ None

module _ {K V : Type 0} where
  -- where the first entry stands whose key passes, counted from 0
  abbrev pub place_in : (K → Bool) → List (K × V) → Option ℕ
  place_in test [] = None
  place_in test (entry ∷ rest) = if test entry.0 then Some 0 else option_map suc (place_in test rest)

  -- the entries with another value at a place
  abbrev pub with_value : List (K × V) → ℕ → V → List (K × V)
  with_value [] place value = []
  with_value (entry ∷ rest) zero value = (entry.0, value) ∷ rest
  with_value (entry ∷ rest) (suc place) value = entry ∷ with_value rest place value

  -- each key is placed where it stands: by its number, if it is found by that, else by its order
  abbrev pub IsEachPlaced : (K → K → Ordering) → (K → Option ℕ) → List (Option ℕ) → BTreeMap K ℕ → List (K × V) → Type 0
  IsEachPlaced cmp number numbers places entries = (k : K) → option_or (numbered numbers (number k)) (tree.get_by (cmp k) places) ≡ place_in (tree.is_at (cmp k)) entries

  -- keys without numbers are placed where they stand, whatever they are looked up by
  abbrev pub ArePlaced : (K → K → Ordering) → (K → Option ℕ) → BTreeMap K ℕ → List (K × V) → Type 0
  ArePlaced cmp number places entries = (compare : K → Ordering) → Respects cmp compare → IsUnnumbered number compare → tree.get_by compare places ≡ place_in (tree.is_at compare) entries

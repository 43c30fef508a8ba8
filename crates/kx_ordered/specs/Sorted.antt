-- Entries that are sorted by their keys.
use Rattle.std.specs.Prelude.{◌≡◌, ℕ, Bool, true, false, List}
use Rattle.std.specs.List.Sorted.{IsPartitionPoint, IsSortedByKey}
use Rattle.std.specs.Map.{lookup}
use Rattle.std.specs.Ordering.{is_lt}
use Rattle.std.specs.declared.cmp.Ordering.{Ordering}

module _ {K V : Type 0} where
  abbrev pub IsSorted : (K → K → Ordering) → List (K × V) → Type 0
  IsSorted cmp entries = IsSortedByKey (λ (entry : K × V). entry.0) cmp entries

  -- each key is looked up as in other entries
  abbrev pub FindsAs : (K → K → Bool) → List (K × V) → List (K × V) → Type 0
  FindsAs eq others entries = (key : K) → lookup (eq key) entries ≡ lookup (eq key) others

  -- the entries of keys below one end at a place
  abbrev pub EndsBelow : (K → K → Ordering) → K → List (K × V) → ℕ → Type 0
  EndsBelow cmp key entries place = IsPartitionPoint (λ (e : K × V). is_lt (cmp e.0 key) ≡ true) (λ (e : K × V). is_lt (cmp e.0 key) ≡ false) entries place

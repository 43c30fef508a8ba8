-- What a map ends as, once a value is put, or a borrow of one ends.
use Rattle.std.specs.Prelude.{◌≡◌, ℕ, Bool, Option, Some, IsSome, if◌then◌else◌}
use Rattle.std.specs.declared.cmp.Ordering.{Ordering}
use Rattle.std.specs.Borrow.{Fml, RattleType, MutBor, Lends, LendsSo}
use Rattle.indexmap.specs.IndexMap.{IndexMap, get, keys, with_entries}
use Rattle.kx_ordered.specs.KeyPlaces.{with_value}
use Rattle.kx_ordered.specs.contracts.ordered.Ordered.{the_row}

-- a key has a value, and others have theirs
abbrev pub Updates : {K V S : Type 0} → (K → K → Bool) → IndexMap K V S → K → V → IndexMap K V S → Type 0
Updates {K} eq old key value new = (q : K) → get eq new q ≡ (if eq key q then Some value else get eq old q)

-- a key that has a value has the one that was written, and others have theirs
abbrev pub Writes : {K V S : Type 0} → (K → K → Bool) → IndexMap K V S → K → V → IndexMap K V S → Type 0
Writes eq old key w new = (keys new ≡ keys old) × (IsSome (get eq old key) → Updates eq old key w new)

-- what `==`, the order and the numbers of keys are
abbrev pub OrderOf : Type 0 → Type 0
OrderOf K = record { cmp : K → K → Ordering; eq : K → K → Bool; number : K → Option ℕ; partial_cmp : K → K → Option Ordering }

abbrev pub order_of : {K : Type 0} → (K → K → Ordering) → (K → K → Bool) → (K → Option ℕ) → (K → K → Option Ordering) → OrderOf K
order_of cmp eq number partial_cmp = record { cmp = cmp; eq = eq; number = number; partial_cmp = partial_cmp }

abbrev pub row_of : (K V : RattleType) → OrderOf K.Denot → RattleType
row_of K V order = the_row K V (record { number = order.number }) (record { cmp = order.cmp }) (record { eq = order.eq }) (record { partial_cmp = order.partial_cmp })

-- the value at a place is what is written
abbrev pub lends_at : (K V : RattleType) → OrderOf K.Denot → MutBor (IndexMap K.Denot V.Denot ℕ) → ℕ → MutBor V.Denot → Fml
lends_at K V order m place r = Lends (row_of K V order) V m r (λ w. with_entries m.now (with_value m.now.entries place w))

-- the value of a key is what is written, if it has one
abbrev pub lends_value : (K V : RattleType) → OrderOf K.Denot → MutBor (IndexMap K.Denot V.Denot ℕ) → K.Denot → Option (MutBor V.Denot) → Fml
lends_value K V order m key r = LendsSo (row_of K V order) V m r (λ n w. Writes order.eq m.now key w n) (λ n. n ≡ m.now)

-- The last key of tables.
use Rattle.std.proofs.Common.{ℕ, zero, suc, ◌+◌, ◌-◌, ◌<◌, ◌≡◌, List, [], ◌∷◌, Some, length, get_or, set, slice_get, sym, ap, arith}
use Rattle.std.proofs.lemmas.Option.{none-some, same_Some}
use Rattle.kx_builder.specs.Added.{last_count, with_more_groups}
use Rattle.kx_builder.specs.Pushes.{change_last}
use Rattle.kx_tables.specs.declared.rows.KeyRow.{KeyRow}

last_at : (ks : List KeyRow) (i : ℕ) (k : KeyRow) → i + 1 ≡ length ks → slice_get ks i ≡ Some k → k.groups ≡ last_count ks
last_at [] i k e at = absurd (none-some k at)
last_at (l ∷ []) zero k e at = ap (λ (m : KeyRow). m.groups) (sym (same_Some l k at))
last_at (l ∷ []) (suc i) k e at = absurd (none-some k at)
last_at (l ∷ m ∷ ks) zero k e at = absurd (omega (arith, e))
last_at (l ∷ m ∷ ks) (suc i) k e at = last_at (m ∷ ks) i k (omega (arith, e)) at

pub last_is : (ks : List KeyRow) (k : KeyRow) → Some k ≡ slice_get ks (length ks - 1) → k.groups ≡ last_count ks
last_is [] k at = absurd (none-some k (sym at))
last_is (l ∷ ks) k at = last_at (l ∷ ks) (length (l ∷ ks) - 1) k (omega arith) (sym at)

set_last : (ks : List KeyRow) (i groups : ℕ) (k : KeyRow) → i + 1 ≡ length ks → k ≡ get_or ks i k → groups ≡ last_count ks + 1 → set ks i (record k { groups = groups }) ≡ change_last with_more_groups ks
set_last [] i groups k e at is = absurd (omega (arith, e))
set_last (l ∷ []) zero groups k e at is = λ j. record (at j) { groups = is j } ∷ []
set_last (l ∷ []) (suc i) groups k e at is = absurd (omega (arith, e))
set_last (l ∷ m ∷ ks) zero groups k e at is = absurd (omega (arith, e))
set_last (l ∷ m ∷ ks) (suc i) groups k e at is = ap (λ ls. l ∷ ls) (set_last (m ∷ ks) i groups k (omega (arith, e)) at is)

pub last_more : (ks : List KeyRow) (i groups : ℕ) (k : KeyRow) → 1 < length ks + 1 → i ≡ length ks - 1 → k ≡ get_or ks i k → groups ≡ last_count ks + 1 → set ks i (record k { groups = groups }) ≡ change_last with_more_groups ks
last_more ks i groups k some e at is = set_last ks i groups k (omega (arith, some, e)) at is

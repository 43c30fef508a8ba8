-- Keys that are told by small numbers.
use Rattle.std.specs.Prelude.{◌≡◌, ◌<◌, ℕ, List, get_or, length, IfSome, Option, None, Some}
use Rattle.std.specs.Ordering.{nat_cmp}
use Rattle.std.specs.declared.cmp.Ordering.{Ordering}
use Rattle.std.specs.declared.cmp.Ordering.TheVariants.{Equal}
use Rattle.std.specs.FinMap.{nat_cmp-IsAntisymmetric}
use Rattle.std.proofs.Common.{refl, sym, ap, ◌∙◌, is_some, unwrap_or, true≢false}
use Rattle.std.proofs.lemmas.Cmp.{nat_cmp_total, tied_itself}

-- equal keys have the same number, and keys of one number are equal
abbrev pub IsTold : {K : Type 0} → (K → K → Ordering) → (K → Option ℕ) → Type 0
IsTold {K} cmp number = ((j k : K) → cmp j k ≡ Equal → number j ≡ number k) × ((j k : K) (n : ℕ) → number j ≡ Some n → number k ≡ Some n → cmp j k ≡ Equal)

-- keys without numbers
pub untold : {K : Type 0} {cmp : K → K → Ordering} → IsTold cmp (λ k. None)
untold = (λ j k e. refl, λ j k n e f. absurd (true≢false (sym (ap is_some e))))

-- keys that are numbers
pub told_itself : IsTold nat_cmp (λ n. Some n)
told_itself = (λ j k e. ap Some (nat_cmp-IsAntisymmetric j k e), λ j k n e f. ap (nat_cmp j) (ap (λ o. unwrap_or o n) (f ∙ sym e)) ∙ tied_itself nat_cmp_total j)

-- what a table of numbers tells of one
abbrev pub numbered : List (Option ℕ) → Option ℕ → Option ℕ
numbered places None = None
numbered places (Some n) = get_or places n None

-- a number for which there is room is the key's, and stands in the table
abbrev pub HasRoom : List (Option ℕ) → Option ℕ → Option ℕ → Type 0
HasRoom numbers number room = IfSome room (λ n. (number ≡ Some n) × (n < length numbers))

-- Which record breaks a rule where counts don't fit; a refusal means unsound tables.
use Rattle.std.proofs.Common.{ℕ, List, ◌≡◌, ◌<◌, ◌≤◌, Some, Result, Ok, Err, IfErr, OnErr, arith, ap, sym, ◌∙◌, get_or, inl, inr, length, slice_get}
use Rattle.std.proofs.lemmas.Option.{slice_get_cases, slice_get-get_or}
use Rattle.kx_tables.specs.Broken.{Breaks, RowBreaks}
use Rattle.kx_tables.specs.Content.{Content}
use Rattle.kx_tables.specs.Fit.{CountsFit}
use Rattle.kx_tables.proofs.Fits.{few_fit}
use Rattle.kx_tables.specs.SoFar.{EachBelow}
use Rattle.kx_tables.proofs.Unsound.{breaks_unsound}
use Rattle.kx_tables.specs.Sound.{CountsHold, Sound}
use Rattle.kx_tables.specs.declared.check.Broken.{Broken}

-- a row that is there, at a place where no row keeps the rules
pub row_past : {X : Type 0} (xs : List X) (P : ℕ → X → Type 0) (i : ℕ) → i < length xs → ((x : X) → P i x → ⊥) → RowBreaks xs P i
row_past xs P i within never = elim ((slice_get_cases xs i).1) [
  | inl here ↦ (here.0, here.2, never here.0)
  | inr past ↦ absurd (let h : length xs ≤ i = past.0 in omega arith)
]

-- what a read at an index gives
pub row_read : {X : Type 0} (xs : List X) (i : ℕ) (x : X) → i < length xs → x ≡ get_or xs i x → slice_get xs i ≡ Some x
row_read xs i x within read = slice_get-get_or xs i x within ∙ ap Some (sym read)

-- counts that don't fit, of tables with few indicators, few group names and few groups a key, break the header's rules
pub counts_unfit : (c : Content) → (CountsFit c → ⊥) → length c.indicators ≤ 32 → length c.group_names ≤ 32 → EachBelow c.keys (λ i k. k.groups ≤ 32) (length c.keys) → CountsHold c → ⊥
counts_unfit c unfit indicators group_names each counts = unfit (few_fit c counts indicators group_names each)

pub refusal_unsound : {X : Type 0} (c : Content) (r : Result X Broken) → IfErr r (λ b. Breaks c b.part b.index) → OnErr r (Sound c → ⊥)
refusal_unsound c (Ok x) broken = tt
refusal_unsound c (Err b) broken = breaks_unsound c b.part b.index broken

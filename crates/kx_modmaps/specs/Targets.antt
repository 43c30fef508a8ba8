-- The numbers of targets.
use Rattle.std.specs.Prelude.{◌≡◌, ℕ, Option, None, Some}
use Rattle.std.specs.FinMap.{nat_cmp-IsAntisymmetric}
use Rattle.std.specs.Ordering.{is_gt, is_lt, nat_cmp}
use Rattle.std.specs.declared.cmp.Ordering.TheVariants.{Equal}
use Rattle.std.proofs.Common.{refl, sym, ap, ◌∙◌, is_some, unwrap_or, true≢false}
use Rattle.std.proofs.lemmas.Cmp.{nat_cmp_total, tied_itself}
use Rattle.kx_ordered.specs.Numbers.{IsTold}
use Rattle.kx_modmaps.specs.declared.target.Target.{Target}
use Rattle.kx_modmaps.specs.declared.target.Target.TheVariants.{Key, Keysym}
use Rattle.kx_modmaps.specs.contracts.target.TargetOrd.TheImpl.{ghosts}

-- a key's code; a keysym has no small number
abbrev pub target_number : Target → Option ℕ
target_number (Key code) = Some code
target_number (Keysym keysym) = None

same_number : (j k : Target) → ghosts.cmp j k ≡ Equal → target_number j ≡ target_number k
same_number (Key a) (Key b) e = ap Some (nat_cmp-IsAntisymmetric a b e)
same_number (Key a) (Keysym b) e = absurd (true≢false (ap is_lt e))
same_number (Keysym a) (Key b) e = absurd (true≢false (ap is_gt e))
same_number (Keysym a) (Keysym b) e = refl

equal_by_number : (j k : Target) (n : ℕ) → target_number j ≡ Some n → target_number k ≡ Some n → ghosts.cmp j k ≡ Equal
equal_by_number (Key a) (Key b) n e f = ap (nat_cmp a) (ap (λ o. unwrap_or o n) (f ∙ sym e)) ∙ tied_itself nat_cmp_total a
equal_by_number (Key a) (Keysym b) n e f = absurd (true≢false (sym (ap is_some f)))
equal_by_number (Keysym a) k n e f = absurd (true≢false (sym (ap is_some e)))

pub told_target : IsTold ghosts.cmp target_number
told_target = (same_number, equal_by_number)

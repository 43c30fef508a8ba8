-- Numbers of groups with their signs.
use Rattle.std.proofs.Common.{◌≡◌, ℤ, pos, negsuc, ◌≤ℤ◌, ◌<ℤ◌, ◌++◌, ◌+◌, codes, decimal, unsigned_abs, refl, ap, arith, suc}
use Rattle.std.proofs.lemmas.Int.{ints}
use Rattle.kx_tables.specs.declared.rows.GroupChange.TheVariants.{Relative}
use Rattle.kx_print.specs.ActionText.{change_text}

pub back : (by : ℤ) → by <ℤ pos 0 → codes "-" ++ decimal (unsigned_abs by) ≡ change_text (Relative by)
back (pos n) below = absurd (omega (arith, ints, below))
back (negsuc n) below =
    let same : suc n ≡ n + 1 = omega arith in
    ap (λ k. codes "-" ++ decimal k) same

pub forth : (by : ℤ) → pos 0 ≤ℤ by → codes "+" ++ decimal (unsigned_abs by) ≡ change_text (Relative by)
forth (pos n) least = refl
forth (negsuc n) least = absurd (omega (arith, ints, least))

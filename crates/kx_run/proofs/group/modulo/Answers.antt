use Rattle.std.proofs.Common.{◌≡◌, ℕ, ◌%◌, ◌∙◌, Bool, true, false, cond, ltb, refl, sym, ap, ℤ, pos, negsuc, w64}
use Rattle.std.proofs.Math.Nat.{mod-eq_of_lt}
use Rattle.std.proofs.lemmas.Int.{to_z-of_z}
use borrow.Author.Tests.{ltb-true}
use Rattle.kx_tables.specs.Range.{in_range}
use Rattle.kx_tables.specs.declared.rows.Range.TheVariants.{Wrap}
use Rattle.kx_run.specs.World.{group_modulo}
use Rattle.kx_run.proofs.group.modulo.Goals as goal

by_test : (b : Bool) (e n : ℕ) → ltb e n ≡ b → cond b e (e % n) ≡ e % n
by_test true e n h = sym (mod-eq_of_lt (ltb-true e n h))
by_test false e n h = refl

wrapped : (z : ℤ) (n : ℕ) → in_range z n Wrap ≡ group_modulo n z
wrapped (pos e) n = by_test (ltb e n) e n refl
wrapped (negsuc e) n = refl

pub returns-clause-value : goal.returns-clause-value
returns-clause-value c =
    c.wrap_group.ensures.value
    ∙ ap (λ z. in_range z c.args.groups Wrap) (to_z-of_z w64 c.args.group c.ranges.group)
    ∙ wrapped c.args.group c.args.groups

use Rattle.std.proofs.Common.{◌≡◌, ℕ, List, Result, Ok, Err, IfOk, ap, ◌∙◌}
use Rattle.std.proofs.lemmas.Cmp.{tied_itself}
use Rattle.std.specs.declared.cmp.Ordering.TheVariants.{Equal}
use Rattle.kx_ordered.specs.Names.{name_cmp, name_cmp_total}
use Rattle.kx_ordered.proofs.owned_name.OwnedNameTableKey.again.Goals as goal

pub returns : goal.returns
returns c = by c.of.result c.as_slice.result.now c.as_slice.ensures c.of.ensures
  where
    by : {E : Type 0} (r : Result (List ℕ) E) (bytes : List ℕ) → bytes ≡ c.args.self.now → IfOk r (λ owned. owned ≡ bytes) → IfOk r (λ copy. name_cmp copy c.args.self.now ≡ Equal)
    by (Ok owned) bytes shown same = ap (λ n. name_cmp n c.args.self.now) (same ∙ shown) ∙ tied_itself name_cmp_total c.args.self.now
    by (Err e) bytes shown same = tt

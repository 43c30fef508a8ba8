use Rattle.std.proofs.Common.{◌∙◌, map}
use Rattle.std.proofs.lemmas.Result.{IfOk-weaker}
use Rattle.kx_types.specs.KeyTypes.{entry_with}
use Rattle.kx_types.proofs.definition.entries_of.Goals as goal

pub returns : goal.returns
returns c = IfOk-weaker c.entries_with.result _ _ (λ entries made. made ∙ (λ i. map (entry_with (λ m. c.in_ok-levels.ensures m i) (λ m. c.in_ok-kept.ensures m i)) (c.in_ok-masks.ensures i))) c.entries_with.ensures

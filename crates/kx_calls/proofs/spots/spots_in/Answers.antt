use Rattle.std.proofs.Common.{List, inr, subst}
use Rattle.kx_text.specs.declared.finding.Spot.{Spot}
use Rattle.kx_calls.specs.SpotsInC.{TellsSpots}
use Rattle.kx_calls.proofs.spots.spots_in.Goals as goal

pub returns-in-Ok-clause-spots : goal.returns-in-Ok-clause-spots
returns-in-Ok-clause-spots c = inr (
  c.in-Ok.found.items,
  (
    record { each = c.in-Ok.ensures.each; all = c.in-Ok.ensures.all },
    subst (λ (found : List Spot). TellsSpots found c.args.out.now c.tell.new.out c.tell.new.count c.tell.result) c.as_slice.ensures.value c.tell.ensures,
  ),
)

use Rattle.std.proofs.Common.{◌≡◌, ◌<◌, ◌∙◌, ◌+◌, suc, arith, length}
use Rattle.std.proofs.lemmas.List.{length-set}
use Rattle.std.proofs.lemmas.Option.{slice_get-get_or}
use Rattle.kx_calls.specs.SpotsInC.{spot_in_c}
use Rattle.kx_calls.proofs.Filling.{filled_one_more}
use Rattle.kx_calls.proofs.spots.fill.Goals as goal

pub loop-index-preserved : goal.loop-index-preserved
loop-index-preserved c =
    let found = c.args.found.now in
    let before = c.args.out.now in
    let index = c.loop-index.index in
    let within : index < length before = omega (arith, c.loop-index-test.true, c.requires.room) in
    let next : index + 1 ≡ suc index = omega arith in
    record {
      long = length-set c.loop-index.out index c.of.result ∙ c.loop-index.invariant.long;
      filled = rw (c.loop-index.invariant.filled, c.of.ensures, next) (filled_one_more spot_in_c found before index _ within (slice_get-get_or found index _ c.loop-index-test.true));
    }

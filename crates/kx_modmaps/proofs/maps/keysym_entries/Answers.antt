use Rattle.kx_modmaps.specs.Shown.{keysym_recorded}
use Rattle.kx_modmaps.proofs.Showing.{given_more}
use Rattle.kx_modmaps.proofs.maps.keysym_entries.Goals as goal

pub targets-preserved : goal.targets-preserved
targets-preserved c =
    let y = c.targets.invariant in
    (y.0, given_more (keysym_recorded c.args.records.now) c.args.records.now.entries c.as_slice-target-items.result.now c.targets.target-index _ _ _ y.0 c.targets-test.true y.1 c.in_ok-add_keysym.ensures.added)

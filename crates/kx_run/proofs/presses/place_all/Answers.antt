use Rattle.std.proofs.Common.{None, ◌-◌, ◌<◌, ℕ, arith, length, subst, sym}
use Rattle.std.specs.Prelude.{IfSome}
use Rattle.std.proofs.Common.{get_or}
use Rattle.kx_run.proofs.Entries.{all_entries}
use Rattle.kx_run.proofs.presses.place_all.Goals as goal

pub place_one-requires : goal.place_one-requires
place_one-requires c =
    let es = c.args.entries.now in
    subst (λ (n : ℕ). IfSome (get_or es (c.loop-place.place - 1) None) (λ key. key.code < n)) (sym c.loop-place.invariant.long)
    (all_entries (λ key. key.code < length c.args.places.now) es c.requires.codes (c.loop-place.place - 1) None (omega (arith, c.loop-place-test.true, c.loop-place.invariant.within)))

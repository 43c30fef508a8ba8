use Rattle.std.proofs.Common.{◌≡◌, ◌+◌, ◌∙◌, None, arith, ap, sym, to_z, w32, take}
use Rattle.std.proofs.lemmas.Int.{ints}
use Rattle.kx_run.specs.Held.{base_group}
use Rattle.kx_run.specs.Presses.{group_after_entry, keys_of}
use Rattle.kx_run.proofs.Entries.{group-more, small_front}
use Rattle.kx_run.proofs.HeldLists.{kept_small}
use Rattle.kx_run.proofs.presses.base_group.Goals as goal

pub group_with-group-requires-clause-low : goal.group_with-group-requires-clause-low
group_with-group-requires-clause-low c =
    let small = small_front c.loop-entry.entry-index c.args.entries.now c.requires.sound in
    let same : to_z w32 c.loop-entry.group-bits ≡ base_group (keys_of (take c.loop-entry.entry-index c.args.entries.now)) = c.loop-entry.invariant in
    rw same (omega (arith, ints, small.low))

pub group_with-group-requires-clause-high : goal.group_with-group-requires-clause-high
group_with-group-requires-clause-high c =
    let small = small_front c.loop-entry.entry-index c.args.entries.now c.requires.sound in
    let same : to_z w32 c.loop-entry.group-bits ≡ base_group (keys_of (take c.loop-entry.entry-index c.args.entries.now)) = c.loop-entry.invariant in
    rw same (omega (arith, ints, small.high))

pub loop-entry-preserved : goal.loop-entry-preserved
loop-entry-preserved c =
    let es = c.args.entries.now in
    let n = c.loop-entry.entry-index in
    let value = c.group_with-group.ensures ∙ ap (group_after_entry _) c.loop-entry.invariant ∙ sym (group-more n es None c.loop-entry-test.true) in
    kept_small (base_group (keys_of (take (n + 1) es))) c.group_with-group.result (small_front (n + 1) es c.requires.sound) value

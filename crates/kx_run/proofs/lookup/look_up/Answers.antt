use Rattle.std.proofs.Common.{arith}
use Rattle.kx_run.proofs.lookup.look_up.Goals as goal
use Rattle.kx_tables.proofs.Bounds.{few_groups}

pub overflow_add-key : goal.overflow_add-key
overflow_add-key g c =
    let content = g.T.Rows.content c.args.tables.now in
    record { fits = omega (arith, few_groups content c.key_count-sound.ensures.sound, c.requires, c.from-2.ensures, c.wrap_group-place.ensures.below) }

pub look_up_group-requires-clause-within : goal.look_up_group-requires-clause-within
look_up_group-requires-clause-within g c =
    omega (arith, c.requires, c.from-2.ensures, c.wrap_group-place.ensures.below)

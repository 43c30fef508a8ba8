use Rattle.std.proofs.Common.{◌∙◌, ap}
use Rattle.kx_run.proofs.HeldLists.{base_mods_is, some_count}
use Rattle.kx_run.proofs.held.mods_without.Goals as goal

pub returns-else-is_none : goal.returns-else-is_none
returns-else-is_none c =
    base_mods_is _ c.args.keys.now c.counted_mods.ensures.in_range c.requires.sound
    (λ bit small. c.counted_mods.ensures.some bit small ∙ ap some_count (c.requires.counts bit small))

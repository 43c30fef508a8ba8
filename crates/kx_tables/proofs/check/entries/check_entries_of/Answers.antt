use Rattle.std.proofs.Common.{arith, refl, ◌∙◌}
use Rattle.kx_tables.proofs.Entering.{entries_none, entries_more}
use Rattle.kx_tables.proofs.check.entries.check_entries_of.Goals as goal

pub loop-place-init : goal.loop-place-init
loop-place-init g c = entries_none _ _

pub loop-place-preserved : goal.loop-place-preserved
loop-place-preserved g c =
    let h = c.if-not-is_numbered.ensures in
    entries_more _ _ _ _ _ c.entry_row-entry.result c.entry_row-entry.ensures c.loop-place.auto.place c.loop-place.invariant (h.0 refl) (c.from-mods.ensures ∙ c.mask.ensures.value) c.if-seen-mods.false

pub returns-clause-ok : goal.returns-clause-ok
returns-clause-ok g c = λ j e from below at. c.loop-place.invariant.each j e from (omega arith) at

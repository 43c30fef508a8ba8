use Rattle.std.proofs.Common.{◌≡◌, ◌<◌, ◌+◌, ◌==◌, ◌∙◌, sym, arith, eq-eqb}
use Rattle.std.specs.Int.RustNames.{bit_and}
use Rattle.kx_mods.specs.Mods.{mask}
use Rattle.kx_tables.specs.declared.rows.EntryRow.{EntryRow}
use Rattle.kx_run.proofs.TableReads.{found_in_part, none_in_part}
use Rattle.kx_run.proofs.lookup.find_entry.Goals as goal

pub returns-then-mask-wanted-clause-value : goal.returns-then-mask-wanted-clause-value
returns-then-mask-wanted-clause-value g c =
    let wanted = bit_and (mask c.args.mods) (mask c.args.row.mods) in
    let p = λ (e : EntryRow). mask e.mods == wanted in
    let same : mask c.entry_row-entry.result.mods ≡ wanted = sym c.mask.ensures.value ∙ c.if-mask-wanted.true ∙ c.mask-wanted.ensures.value ∙ c.meet.ensures in
    let high : c.loop-place.place < c.args.row.first_entry + c.args.row.entries = omega (arith, c.from.ensures) in
    sym (found_in_part p (g.T.Rows.content c.args.tables.now).entries c.args.row.first_entry c.args.row.entries c.loop-place.place c.entry_row-entry.result
    c.loop-place.auto.place high c.entry_row-entry.ensures (eq-eqb _ wanted same) c.loop-place.invariant)

pub returns-clause-value : goal.returns-clause-value
returns-clause-value g c =
    let wanted = bit_and (mask c.args.mods) (mask c.args.row.mods) in
    let p = λ (e : EntryRow). mask e.mods == wanted in
    sym (none_in_part p (g.T.Rows.content c.args.tables.now).entries c.args.row.first_entry c.args.row.entries
    (λ k e low high read. c.loop-place.invariant k e low (omega (arith, c.from.ensures)) read))

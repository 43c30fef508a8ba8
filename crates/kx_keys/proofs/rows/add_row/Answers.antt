use Rattle.std.proofs.Common.{◌==◌, ◌&&◌, ap, sym, ◌∙◌, ◌++◌, ◌∷◌, [], not, if◌then◌else◌}
use Rattle.kx_virtual_mods.specs.Sets.{real_of as stood_for}
use Rattle.kx_virtual_mods.specs.Standing.{stands_for}
use Rattle.kx_keys.specs.Rows.{has_row, row_of, set_mask}
use Rattle.std.specs.List.{list_any}
use Rattle.kx_mods.specs.Mods.{mask}
use Rattle.kx_tables.specs.declared.rows.EntryRow.{EntryRow}
use Rattle.kx_keys.proofs.rows.add_row.Goals as goal

pub returns-then-not-is_live : goal.returns-then-not-is_live
returns-then-not-is_live c =
    let real = stood_for (stands_for c.args.stands.now) in
    let rows = c.args.rows.now.items in
    let dead = sym (c.is_live.ensures real c.real_mods-mods.ensures.bits) ∙ c.if-not-is_live.true in
    sym (ap (λ b. if b && not (has_row real (set_mask (real c.args.entry.mask)) rows) then rows ++ row_of real c.args.entry ∷ [] else rows) dead)

pub returns-then-has_row : goal.returns-then-has_row
returns-then-has_row c =
    let real = stood_for (stands_for c.args.stands.now) in
    let rows = c.args.rows.now.items in
    let there = ap (λ m. has_row real (mask m) rows) (sym c.real_mods-mods.ensures.value) ∙ sym (c.has_row.ensures ∙ ap (λ rs. list_any (λ (row : EntryRow). mask row.mods == mask c.real_mods-mods.result) rs) c.as_slice.ensures.value) ∙ c.if-has_row.true in
    let live = sym (c.is_live.ensures real c.real_mods-mods.ensures.bits) ∙ c.if-not-is_live.false in
    sym (λ i. if live i && not (there i) then rows ++ row_of real c.args.entry ∷ [] else rows)

pub returns : goal.returns
returns c =
    let real = stood_for (stands_for c.args.stands.now) in
    let rows = c.args.rows.now.items in
    let absent = ap (λ m. has_row real (mask m) rows) (sym c.real_mods-mods.ensures.value) ∙ sym (c.has_row.ensures ∙ ap (λ rs. list_any (λ (row : EntryRow). mask row.mods == mask c.real_mods-mods.result) rs) c.as_slice.ensures.value) ∙ c.if-has_row.false in
    let live = sym (c.is_live.ensures real c.real_mods-mods.ensures.bits) ∙ c.if-not-is_live.false in
    c.in_ok-push.ensures.items
    ∙ (λ i. rows ++ record { mods = c.real_mods-mods.ensures.value i; level = c.args.entry.level; preserve = c.real_mods.ensures.value i } ∷ [])
    ∙ sym (λ i. if live i && not (absent i) then rows ++ row_of real c.args.entry ∷ [] else rows)

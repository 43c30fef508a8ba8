use Rattle.std.proofs.Common.{◌≡◌, ap, sym, ◌∙◌, ◌+◌, ◌++◌, ◌∷◌, [], take}
use Rattle.std.proofs.lemmas.List.{take_more}
use Rattle.std.proofs.lemmas.List.Sums.{fold-append}
use Rattle.kx_virtual_mods.specs.Sets.{real_of}
use Rattle.kx_virtual_mods.specs.Standing.{stands_for}
use Rattle.kx_keys.specs.Rows.{entry_rows, with_entry}
use Rattle.kx_keys.proofs.rows.entry_rows.Goals as goal

pub entries-preserved : goal.entries-preserved
entries-preserved c =
    let real = real_of (stands_for c.args.stands.now) in
    let entries = c.args.entries.now in
    let index = c.entries.entry-index in
    let item = c.entry-item.result in
    let more : take (index + 1) entries ≡ take index entries ++ item ∷ [] = take_more entries index item c.entries-test.true ∙ ap (λ e. take index entries ++ e ∷ []) (sym c.entry-item.is) in
    c.in_ok-add_row.ensures ∙ ap (λ rows. with_entry real rows item) c.entries.invariant ∙ sym (fold-append (with_entry real) [] (take index entries) (item ∷ [])) ∙ ap (entry_rows real) (sym more)

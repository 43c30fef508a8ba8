use Rattle.std.proofs.Common.{◌≡◌, ◌++◌, ◌∙◌, [], ℕ, codes, decimal, map, slice_get, ap, sym, append-nil}
use Rattle.std.specs.Option.{option_map_or}
use Rattle.kx_tables.specs.Content.{levels_of, part, type_name}
use Rattle.kx_tables.specs.declared.rows.TypeRow.{TypeRow}
use Rattle.kx_print.specs.Phrases.{elements, field_at, quoted}
use Rattle.kx_print.specs.Printed.{cell_action, cell_symbols, group_fields, type_of}
use Rattle.kx_print.proofs.Rows.{of_row}
use Rattle.kx_print.proofs.Writing.{◌⨟◌, rewritten}
use Rattle.kx_print.proofs.fields.write_group.Goals as goal

pub returns : goal.returns
unfolding group_fields
returns g c =
    let content = g.T.Rows.content c.args.tables.now in
    let group = c.args.group in
    let number = decimal c.args.number in
    let found = slice_get content.types group.key_type in
    let name : c.type_name.result.now ≡ type_of content group =
    of_row (type_name content) found c.type_row.result c.type_name.result.now c.type_row.ensures c.type_name.ensures ∙ sym (ap (λ o. option_map_or (type_name content) o []) c.type_row.ensures) in
    let levels : c.type_row.result.levels ≡ levels_of content group = sym (ap (λ o. option_map_or (λ (u : TypeRow). u.levels) o 0) c.type_row.ensures) in
    let symbols = λ (n : ℕ). field_at (codes "symbols") number (elements (map (cell_symbols content) (part content.cells group.first_cell n))) in
    let actions = λ (n : ℕ). field_at (codes "actions") number (elements (map cell_action (part content.cells group.first_cell n))) in
    (c.write.ensures ⨟ rewritten (ap (λ n. field_at (codes "type") number (quoted n)) name) c.write_type_field.ensures)
    ⨟ (c.write-2.ensures ⨟ rewritten (ap symbols levels) c.write_symbols_field.ensures)
    ⨟ rewritten (sym (append-nil (codes ",\n" ++ actions (levels_of content group)))) (c.write-3.ensures ⨟ rewritten (ap actions levels) c.write_actions_field.ensures)

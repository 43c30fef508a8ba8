use Rattle.std.proofs.Common.{◌≤◌, ◌∙◌, length, sym, ap, arith}
use Rattle.kx_tables.specs.Content.{part}
use Rattle.kx_print.specs.Printed.{cell_symbols, symbols_text}
use Rattle.kx_print.proofs.RangeLemmas.{several}
use Rattle.kx_print.proofs.Rows.{length-part, part-one}
use Rattle.kx_print.proofs.Writing.{◌⨟◌, rewritten}
use Rattle.kx_print.proofs.symbols.write_cell.Goals as goal

pub returns-in-0 : goal.returns-in-0
unfolding cell_symbols
returns-in-0 g c =
    let keysyms = (g.T.Rows.content c.args.tables.now).keysyms in
    rewritten (sym (ap (λ n. symbols_text (part keysyms c.args.cell.first_keysym n)) c.in-0.is)) c.write.ensures

pub returns-in-1 : goal.returns-in-1
unfolding cell_symbols
returns-in-1 g c =
    let keysyms = (g.T.Rows.content c.args.tables.now).keysyms in
    rewritten (sym (ap (λ n. symbols_text (part keysyms c.args.cell.first_keysym n)) c.in-1.is ∙ ap symbols_text (part-one keysyms c.args.cell.first_keysym c.keysym.result c.keysym.ensures)))
    c.write_keysym.ensures

pub returns-in_default : goal.returns-in_default
unfolding cell_symbols
returns-in_default g c =
    let keysyms = (g.T.Rows.content c.args.tables.now).keysyms in
    let own = part keysyms c.args.cell.first_keysym c.args.cell.keysyms in
    let two : 2 ≤ length own = omega (arith, length-part keysyms c.args.cell.first_keysym c.args.cell.keysyms c.requires.within) in
    rewritten (sym (several own two)) (c.write-in_default.ensures ⨟ c.write_keysyms.ensures ⨟ c.write-in_default-2.ensures)

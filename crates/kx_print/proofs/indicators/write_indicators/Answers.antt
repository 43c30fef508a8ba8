use Rattle.std.proofs.Common.{◌<◌, cond, [], codes, length, ap, sym, arith}
use Rattle.std.proofs.lemmas.Bool.{eq-eqb, ne_eqb}
use Rattle.std.specs.List.{flat_map}
use Rattle.ks_core.proofs.BufferedOutLemmas.{writes_nothing}
use Rattle.kx_tables.specs.declared.tables.Counts.{Counts}
use Rattle.kx_print.specs.Phrases.{block}
use Rattle.kx_print.specs.Printed.{compat_section, indicator_block}
use Rattle.kx_print.proofs.Writing.{◌⨟◌, rewritten}
use Rattle.kx_print.proofs.indicators.write_indicators.Goals as goal

pub returns-then-counts-gt0 : goal.returns-then-counts-gt0
unfolding compat_section
returns-then-counts-gt0 g c =
    let content = g.T.Rows.content c.args.tables.now in
    let count = ap (λ (n : Counts). n.indicators) c.counts.ensures in
    let some : 0 < length content.indicators = omega (arith, count, c.if-counts-gt0.true) in
    rewritten (ap (λ b. cond b [] (block (codes "xkb_compat") (flat_map (indicator_block content) content.indicators))) (sym (ne_eqb (length content.indicators) 0 (λ none. absurd (omega (arith, some, none))))))
    (c.write.ensures ⨟ c.write_each_indicator.ensures ⨟ c.write-then-counts-gt0.ensures)

pub returns-else-counts-gt0 : goal.returns-else-counts-gt0
unfolding compat_section
returns-else-counts-gt0 g c =
    let content = g.T.Rows.content c.args.tables.now in
    let count = ap (λ (n : Counts). n.indicators) c.counts.ensures in
    rewritten (ap (λ b. cond b [] (block (codes "xkb_compat") (flat_map (indicator_block content) content.indicators))) (sym (eq-eqb (length content.indicators) 0 (omega (arith, count, c.if-counts-gt0.false)))))
    (writes_nothing g.O.Out.written g.O.Out.failures c.args.out.now c.args.buffered.now)

use Rattle.std.proofs.Common.{◌∙◌, ◌++◌, cond, [], codes, decimal, ap, sym}
use Rattle.ks_core.proofs.BufferedOutLemmas.{writes_nothing}
use Rattle.kx_print.specs.Phrases.{quoted, setting}
use Rattle.kx_print.proofs.Writing.{◌⨟◌, rewritten}
use Rattle.kx_client_text.specs.Written.{indicator_line}
use Rattle.kx_client_text.proofs.keycodes.write_indicator_name.Goals as goal

pub returns-then-is_empty : goal.returns-then-is_empty
unfolding indicator_line
returns-then-is_empty g c =
    rewritten (ap (λ b. cond b [] (setting (codes "indicator " ++ decimal c.args.number) (quoted c.args.name.now))) (sym (sym c.is_empty.ensures ∙ c.if-is_empty.true)))
    (writes_nothing g.O.Out.written g.O.Out.failures c.args.out.now c.args.buffered.now)

pub returns : goal.returns
unfolding indicator_line
returns g c =
    rewritten (ap (λ b. cond b [] (setting (codes "indicator " ++ decimal c.args.number) (quoted c.args.name.now))) (sym (sym c.is_empty.ensures ∙ c.if-is_empty.false)))
    ((c.write.ensures ⨟ c.write_number.ensures) ⨟ c.write-2.ensures ⨟ c.write_quoted.ensures ⨟ c.write-3.ensures)

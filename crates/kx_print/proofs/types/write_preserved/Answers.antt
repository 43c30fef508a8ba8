use Rattle.std.proofs.Common.{◌∙◌, cond, [], ap, sym}
use Rattle.ks_core.proofs.BufferedOutLemmas.{writes_nothing}
use Rattle.kx_print.specs.Masks.{mods_text}
use Rattle.kx_print.specs.Phrases.{setting_at}
use Rattle.std.proofs.Common.{codes}
use Rattle.kx_print.specs.Printed.{preserve_line}
use Rattle.kx_print.proofs.Writing.{◌⨟◌, rewritten}
use Rattle.kx_print.proofs.types.write_preserved.Goals as goal

pub returns-then-is_none : goal.returns-then-is_none
unfolding preserve_line
returns-then-is_none g c =
    rewritten (ap (λ b. cond b [] (setting_at (codes "preserve") (mods_text c.args.entry.mods) (mods_text c.args.entry.preserve))) (sym (sym c.is_none.ensures ∙ c.if-is_none.true)))
    (writes_nothing g.O.Out.written g.O.Out.failures c.args.out.now c.args.buffered.now)

pub returns : goal.returns
unfolding preserve_line
returns g c =
    rewritten (ap (λ b. cond b [] (setting_at (codes "preserve") (mods_text c.args.entry.mods) (mods_text c.args.entry.preserve))) (sym (sym c.is_none.ensures ∙ c.if-is_none.false)))
    (c.write.ensures ⨟ c.write_mods.ensures ⨟ c.write-2.ensures ⨟ c.write_mods-2.ensures ⨟ c.write-3.ensures)

use Rattle.std.proofs.Common.{◌∙◌, ◌++◌, cond, [], ap, codes, sym}
use Rattle.ks_core.proofs.BufferedOutLemmas.{writes_nothing}
use Rattle.kx_print.specs.Masks.{mods_text}
use Rattle.kx_print.proofs.Writing.{◌⨟◌, rewritten}
use Rattle.kx_client_text.proofs.types.write_stand.Goals as goal

pub returns-then-is_none : goal.returns-then-is_none
returns-then-is_none g c =
    rewritten (ap (λ b. cond b [] (codes "= " ++ mods_text c.args.mods)) (sym (sym c.is_none.ensures ∙ c.if-is_none.true)))
    (writes_nothing g.O.Out.written g.O.Out.failures c.args.out.now c.args.buffered.now)

pub returns : goal.returns
returns g c =
    rewritten (ap (λ b. cond b [] (codes "= " ++ mods_text c.args.mods)) (sym (sym c.is_none.ensures ∙ c.if-is_none.false)))
    (c.write.ensures ⨟ c.write_mods.ensures)

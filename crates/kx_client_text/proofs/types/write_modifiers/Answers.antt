use Rattle.std.proofs.Common.{◌∙◌, ◌++◌, cond, [], ap, codes, map, sym}
use Rattle.ks_core.proofs.BufferedOutLemmas.{writes_nothing}
use Rattle.kx_print.specs.Phrases.{joined}
use Rattle.kx_print.proofs.Writing.{◌⨟◌, rewritten}
use Rattle.kx_client_text.specs.Written.{modifier_text, modifiers_line}
use Rattle.kx_client_text.proofs.types.write_modifiers.Goals as goal

pub returns-then-is_empty : goal.returns-then-is_empty
unfolding modifiers_line
returns-then-is_empty g c =
    rewritten (ap (λ b. cond b [] (codes "virtual_modifiers " ++ (joined (codes ", ") (map modifier_text c.args.modifiers.now) ++ codes ";\n"))) (sym (sym c.is_empty.ensures ∙ c.if-is_empty.true)))
    (writes_nothing g.O.Out.written g.O.Out.failures c.args.out.now c.args.buffered.now)

pub returns : goal.returns
unfolding modifiers_line
returns g c =
    rewritten (ap (λ b. cond b [] (codes "virtual_modifiers " ++ (joined (codes ", ") (map modifier_text c.args.modifiers.now) ++ codes ";\n"))) (sym (sym c.is_empty.ensures ∙ c.if-is_empty.false)))
    (c.write.ensures ⨟ c.write_each_modifier.ensures ⨟ c.write-2.ensures)

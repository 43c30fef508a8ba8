use Rattle.std.proofs.Common.{◌++◌, [], cond, codes, subst, sym}
use Rattle.std.proofs.lemmas.Bool.{ne_eqb}
use Rattle.ks_core.specs.BufferedOut.{Writes}
use Rattle.ks_core.proofs.BufferedOutLemmas.{writes_then}
use Rattle.kx_lines.specs.Answer.{lit_names}
use Rattle.kx_lines.proofs.listing.write_lit.Goals as goal

pub returns-then-lit-ne0 : goal.returns-then-lit-ne0
returns-then-lit-ne0 g c =
    subst (λ dark. Writes g.O.Out.written g.O.Out.failures c.args.out.now c.args.buffered.now c.write_lit_names.new.out c.write_lit_names.new.buffered (cond dark [] (codes " lit=" ++ lit_names (g.T.Rows.content c.args.tables.now) c.args.lit)))
    (sym (ne_eqb c.args.lit 0 c.if-lit-ne0.true)) (writes_then g.O.Out.written g.O.Out.failures _ _ _ _ _ _ _ _ c.write.ensures c.write_lit_names.ensures)

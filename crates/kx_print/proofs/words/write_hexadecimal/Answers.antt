use Rattle.std.proofs.Common.{◌++◌, cond, false, codes, ap, sym}
use Rattle.std.proofs.lemmas.Bool.{eq-eqb, ne_eqb}
use Rattle.ks_core.specs.Names.{hex_digits}
use Rattle.kx_print.proofs.Writing.{◌⨟◌, rewritten}
use Rattle.kx_print.proofs.words.write_hexadecimal.Goals as goal

pub returns-then-number-eq0 : goal.returns-then-number-eq0
returns-then-number-eq0 g c =
    rewritten (ap (λ b. codes "0x" ++ cond b (codes "0") (hex_digits false c.args.number)) (sym (eq-eqb c.args.number 0 c.if-number-eq0.true)))
    (c.write.ensures ⨟ c.write-then-number-eq0.ensures)

pub returns-else-number-eq0 : goal.returns-else-number-eq0
returns-else-number-eq0 g c =
    rewritten (ap (λ b. codes "0x" ++ cond b (codes "0") (hex_digits false c.args.number)) (sym (ne_eqb c.args.number 0 c.if-number-eq0.false)))
    (c.write.ensures ⨟ c.write_digits.ensures)

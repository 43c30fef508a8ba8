use Rattle.std.proofs.Common.{◌∷◌, [], false, ap, arith, sym}
use Rattle.ks_core.proofs.DigitsLemmas.{hex_digits-step}
use Rattle.kx_print.proofs.Writing.{◌⨟◌, rewritten}
use Rattle.kx_print.proofs.words.+write_digits.Goals as goal

pub returns-then-number-gt0 : goal.returns-then-number-gt0
returns-then-number-gt0 g t c =
    rewritten (sym (hex_digits-step false c.args.number (omega arith))) (c.write_digits.ensures ⨟ rewritten (ap (λ d. d ∷ []) c.digit.ensures) c.write.ensures)

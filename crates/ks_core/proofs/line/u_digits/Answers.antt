use Rattle.std.proofs.Common.{◌≤◌, length, sym, ◌∙◌, arith}
use Rattle.ks_core.proofs.NameLemmas.{AllDigits-is_hex, length-is_hex}
use Rattle.ks_core.proofs.line.u_digits.Goals as goal

pub returns-then-is_hex-clause-hex : goal.returns-then-is_hex-clause-hex
returns-then-is_hex-clause-hex c = AllDigits-is_hex 6 c.split_at.result.1.now (sym c.is_hex.ensures ∙ c.if-is_hex.true)

pub returns-then-is_hex-clause-few : goal.returns-then-is_hex-clause-few
returns-then-is_hex-clause-few c =
    let few : length c.split_at.result.1.now ≤ 6 = length-is_hex 6 c.split_at.result.1.now (sym c.is_hex.ensures ∙ c.if-is_hex.true) in omega arith

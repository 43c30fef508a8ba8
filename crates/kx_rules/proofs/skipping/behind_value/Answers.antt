use Rattle.std.proofs.Common.{◌≡◌, get_or, arith}
use Rattle.kx_rules.proofs.PassedRules.{group_value, star_value}
use Rattle.kx_rules.proofs.skipping.behind_value.Goals as goal

pub returns-in-42-clause-value : goal.returns-in-42-clause-value
returns-in-42-clause-value c =
    let is : get_or c.args.text.now 0 0 ≡ 42 = omega arith in
    star_value c.args.text.now c.in-42.len_at_least is

pub returns-else-len-eq0-clause-value : goal.returns-else-len-eq0-clause-value
returns-else-len-eq0-clause-value c =
    let is : get_or c.args.text.now 0 0 ≡ 36 = omega arith in
    group_value c.args.text.now c.split_at.result.1.now c.word_len-len.result c.in-36.len_at_least is c.word_len-len.ensures.value c.if-len-eq0.false c.split_at.ensures.back

use Rattle.std.proofs.Common.{◌≡◌, ◌%◌, slice_index, length, rules, arith}
use Rattle.kx_lex.proofs.Keywords.{none_as_long, none_empty, none_of_length}
use Rattle.kx_lex.proofs.keyword.may_spell.Goals as goal

pub returns-in_default : goal.returns-in_default
returns-in_default c _ = let none : length c.args.word.now ≡ 0 = search rules in none_empty c.args.word.now none

pub returns-then-word-by_length : goal.returns-then-word-by_length
returns-then-word-by_length c other =
    let first : c.in-Some.first.now ≡ slice_index c.args.word.now 0 = search rules in
    let letter : c.from.result ≡ slice_index c.args.word.now 0 % 32 = cc in
    none_of_length c.lengths.result.now c.args.word.now c.lengths.ensures (rw letter at other)

pub returns-else-word-by_length : goal.returns-else-word-by_length
returns-else-word-by_length c other = none_as_long c.args.word.now (omega (arith, c.by_length.ensures.long))

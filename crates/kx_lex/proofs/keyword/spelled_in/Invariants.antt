use Rattle.std.proofs.Common.{◌≡◌, drop}
use Rattle.kx_lex.specs.Keywords.{rows_of, spelled_in}
use Rattle.kx_lex.proofs.keyword.spelled_in.Given as goal

abbrev pub invariant-rows : goal.invariant-rows
invariant-rows l = spelled_in l.word (rows_of l.rows) ≡ spelled_in l.word (rows_of (drop l.row-index l.rows))

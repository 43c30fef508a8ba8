use Rattle.std.proofs.Common.{sym}
use Rattle.ks_core.proofs.NameLemmas.{IsUtf8-word, is_word-given}
use Rattle.ks_core.proofs.line.given_name.Goals as goal

pub returns-in-Err : goal.returns-in-Err
returns-in-Err c = absurd (c.in-Err.ensures.cases.0 (IsUtf8-word c.args.name.now (is_word-given c.args.name.now (sym c.if-not-is_given_name.ensures))))

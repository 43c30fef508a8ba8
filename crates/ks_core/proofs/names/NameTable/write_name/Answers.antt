use Rattle.std.proofs.Common.{arith}
use Rattle.ks_core.proofs.NamedLemmas.{name_of_number-named, name_of_number-lexical, no_name-positive}
use Rattle.ks_core.proofs.names.NameTable.write_name.Goals as goal

pub returns-in-None-clause-read_back : goal.returns-in-None-clause-read_back
returns-in-None-clause-read_back c = λ back.
    let none = no_name-positive c.args.keysym.0 c.args.self.now.names c.in-None.ensures.first in
    rw c.write_number.ensures (name_of_number-named c.args.self.now c.args.keysym.0 c.in-None.ensures.sound none.0 (omega arith) back)

pub returns-in-None-clause-lexical : goal.returns-in-None-clause-lexical
returns-in-None-clause-lexical c =
    let none = no_name-positive c.args.keysym.0 c.args.self.now.names c.in-None.ensures.first in rw c.write_number.ensures (name_of_number-lexical c.args.keysym.0 none.1 (omega arith))

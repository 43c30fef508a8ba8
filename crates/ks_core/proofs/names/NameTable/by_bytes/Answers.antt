use Rattle.std.proofs.Common.{Some}
use Rattle.ks_core.proofs.NamedLemmas.{sound-written_back}
use Rattle.ks_core.proofs.TextLemmas.{further_text, of_none}
use Rattle.ks_core.proofs.names.NameTable.by_bytes.Goals as goal

pub returns-in-Err-clause-value : goal.returns-in-Err-clause-value
returns-in-Err-clause-value c = of_none c.args.self.now c.args.name.now c.in-Err.ensures.cases.0

pub returns-in-Some-further_keysym_of_bytes-clause-value : goal.returns-in-Some-further_keysym_of_bytes-clause-value
returns-in-Some-further_keysym_of_bytes-clause-value c =
    let some = c.in-Some-further_keysym_of_bytes in
    further_text c.args.self.now c.args.name.now some.keysym c.further_keysym_of_bytes.ensures.sound some.ensures.value

pub returns-in-Some-further_keysym_of_bytes-clause-within : goal.returns-in-Some-further_keysym_of_bytes-clause-within
returns-in-Some-further_keysym_of_bytes-clause-within c =
    let some = c.in-Some-further_keysym_of_bytes in
    sound-written_back c.args.self.now.names c.args.name.now (Some some.keysym) c.further_keysym_of_bytes.ensures.sound some.ensures.value

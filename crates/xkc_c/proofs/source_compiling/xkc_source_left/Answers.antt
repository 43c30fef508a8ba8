use Rattle.std.proofs.Common.{◌∙◌, sym}
use Rattle.kx_calls.specs.NamesInC.{names_in}
use Rattle.kx_calls.proofs.Refusing.{has_fault, is_given, is_lasting, not_ok}
use Rattle.xkc_c.proofs.source_compiling.xkc_source_left.Goals.{in-Err, in-Ok}
use Rattle.xkc_c.proofs.source_compiling.xkc_source_left.Goals as goal

pub returns-clause-fault : goal.returns-clause-fault
returns-clause-fault c given there refused =
    let same = is_given c.in-Some.ensures.taken there c.deref.ensures in
    elim c.match-leave_into.branch [
      | in-Ok w ↦ absurd (not_ok w.status-is refused)
      | in-Err w ↦ (w.in-Err.found, has_fault (names_in c.args.names.now.value) w.in-Err.found same (is_lasting (sym w.status-is ∙ refused) w.refusal-status.ensures) w.in-Err.ensures.fault)
    ]

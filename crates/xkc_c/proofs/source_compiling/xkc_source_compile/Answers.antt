use Rattle.std.proofs.Common.{◌∙◌, sym}
use Rattle.kx_calls.specs.NamesInC.{names_in}
use Rattle.kx_calls.proofs.Refusing.{has_fault, is_given, not_memory, not_ok}
use Rattle.xkc_c.proofs.source_compiling.xkc_source_compile.Goals.{in-Err+in-None, in-Err+in-Some-told, in-Ok}
use Rattle.xkc_c.proofs.source_compiling.xkc_source_compile.Goals as goal

pub returns-clause-fault : goal.returns-clause-fault
returns-clause-fault c given there refused =
    let same = is_given c.in-Some.ensures.taken there c.deref.ensures in
    elim c.match-compiled_under.branch [
      | in-Ok w ↦ absurd (not_ok w.status-is refused)
      | in-Err+in-None w ↦ absurd (not_memory w.status-is refused)
      | in-Err+in-Some-told w ↦ (
        w.in-Err.found,
        (
          w.fault-is ∙ w.in-Some-told.ensures.0,
          has_fault (names_in c.args.names.now.value) w.in-Err.found same w.in-Some-told.ensures.1 w.in-Err.ensures.fault,
        ),
      )
    ]

use Rattle.std.proofs.Common.{◌≡◌, None, nat_eq, refl}
use Rattle.kx_include.specs.Shared.{expanded_body}
use Rattle.kx_lex.specs.declared.fault.Fault.{Fault}
use Rattle.kx_lex.specs.declared.fault.Fault.TheVariants.{Memory}
use Rattle.kx_merge.specs.Bodies.{faults_of, no_moves}
use Rattle.kx_clients.specs.KeyRepeats.{repeat_rules}
use Rattle.kx_clients.proofs.Faults.{no_faults, out_of_memory, passed}
use Rattle.kx_clients.proofs.key_repeats.KeyRepeats.of.Goals as goal

pub returns-clause-said : goal.returns-clause-said
returns-clause-said c = λ code. c.in_ok-merged.ensures.shows.cells_are code tt

pub returns-in_err-merged-clause-err : goal.returns-in_err-merged-clause-err
returns-in_err-merged-clause-err c =
    let rules = repeat_rules c.args.codes.now in
    let body = expanded_body c.args.expansion.now in
    passed c.from_residual.result (λ (e : Fault). e ≡ Memory) c.in_err-merged.field-0.0 c.from_residual.ensures.1
    (out_of_memory (faults_of nat_eq rules no_moves body) c.in_err-merged.field-0.0 (no_faults nat_eq rules no_moves (λ d place item. refl) None body) c.in_err-merged.ensures.faults.1)

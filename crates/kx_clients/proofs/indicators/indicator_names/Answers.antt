use Rattle.std.proofs.Common.{◌≡◌, nat_eq, refl}
use Rattle.kx_include.specs.Shared.{expanded_body}
use Rattle.kx_lex.specs.declared.fault.Fault.{Fault}
use Rattle.kx_lex.specs.declared.fault.Fault.TheVariants.{Memory}
use Rattle.kx_merge.specs.Bodies.{faults_of}
use Rattle.kx_clients.specs.IndicatorNames.{indicator_moves, indicator_rules}
use Rattle.kx_clients.proofs.Faults.{no_faults, out_of_memory, passed}
use Rattle.kx_clients.proofs.indicators.indicator_names.Goals as goal

pub returns-in_err-merged-clause-err : goal.returns-in_err-merged-clause-err
returns-in_err-merged-clause-err c =
    let body = expanded_body c.args.expansion.now in
    passed c.from_residual.result (λ (e : Fault). e ≡ Memory) c.in_err-merged.field-0.0 c.from_residual.ensures.1
    (out_of_memory (faults_of nat_eq indicator_rules indicator_moves body) c.in_err-merged.field-0.0 (no_faults nat_eq indicator_rules indicator_moves (λ d place item. refl) tt body) c.in_err-merged.ensures.faults.1)

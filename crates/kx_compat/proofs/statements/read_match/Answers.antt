use Rattle.std.proofs.Common.{◌++◌}
use Rattle.kx_lex.specs.declared.fault.Fault.TheVariants.{Memory}
use Rattle.kx_symbols.specs.KeyFaults.{symbol_faults}
use Rattle.kx_compat.specs.Matches.{predicate_faults}
use Rattle.kx_merge.proofs.Going.{blamed_behind, reported_or_out}
use Rattle.kx_compat.proofs.statements.read_match.Goals as goal

pub returns-in_err-condition-clause-faults : goal.returns-in_err-condition-clause-faults
returns-in_err-condition-clause-faults c =
    let symbol = symbol_faults c.args.context.now.file c.args.written.now.symbol.now in
    let predicate = predicate_faults c.args.context.now.file c.args.context.now.modifiers.now.names c.args.written.now.predicate.now in
    reported_or_out c.from_residual-in_err-condition.result (symbol ++ predicate) c.in_err-condition.field-0.0 c.from_residual-in_err-condition.ensures.1 (blamed_behind Memory symbol predicate c.in_err-condition.field-0.0 c.in_err-condition.ensures.faults.1)

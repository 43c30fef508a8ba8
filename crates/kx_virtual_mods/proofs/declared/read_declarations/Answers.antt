use Rattle.std.specs.List.{flat_map}
use Rattle.kx_lex.specs.declared.fault.Fault.TheVariants.{Memory}
use Rattle.kx_virtual_mods.specs.Declarations.{declaration_faults}
use Rattle.kx_merge.proofs.Going.{any_blames, reported_or_out}
use Rattle.kx_virtual_mods.proofs.declared.read_declarations.Goals as goal

pub returns-in_err-read_declaration-clause-faults : goal.returns-in_err-read_declaration-clause-faults
returns-in_err-read_declaration-clause-faults c =
    let faults = declaration_faults c.args.file c.args.names.now in
    reported_or_out c.from_residual.result (flat_map faults c.args.declarations.now) c.in_err-read_declaration.field-0.0 c.from_residual.ensures.1
    (any_blames faults c.args.declarations.now c.declarations.declaration-index c.declaration-item.result Memory c.in_err-read_declaration.field-0.0 c.declarations-test.true c.declaration-item.is c.declarations.invariant.1 c.in_err-read_declaration.ensures.faults.1)

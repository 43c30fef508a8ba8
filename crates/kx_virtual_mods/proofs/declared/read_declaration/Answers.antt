use Rattle.kx_lex.specs.declared.fault.Fault.TheVariants.{Memory}
use Rattle.kx_virtual_mods.specs.Declarations.{declaration_faults, declared_faults, name_faults}
use Rattle.kx_merge.proofs.Going.{blamed, blamed_front, reported_or_out}
use Rattle.kx_virtual_mods.proofs.Going.{blamed_back}
use Rattle.kx_virtual_mods.proofs.declared.read_declaration.Goals as goal

pub returns-in_err-check_name-clause-faults : goal.returns-in_err-check_name-clause-faults
returns-in_err-check_name-clause-faults c =
    let d = c.args.declaration.now in
    reported_or_out c.from_residual.result (declaration_faults c.args.file c.args.names.now d) c.in_err-check_name.field-0.0 c.from_residual.ensures.1
    (blamed_front Memory (name_faults c.args.file d.word) (declared_faults c.args.file c.args.names.now d.mask) c.in_err-check_name.field-0.0
    (blamed Memory (name_faults c.args.file d.word) c.in_err-check_name.field-0.0 c.in_err-check_name.ensures.faults.1))

pub returns-in_err-mask-clause-faults : goal.returns-in_err-mask-clause-faults
returns-in_err-mask-clause-faults c =
    let d = c.args.declaration.now in
    reported_or_out c.from_residual-in_err-mask.result (declaration_faults c.args.file c.args.names.now d) c.in_err-mask.field-0.0 c.from_residual-in_err-mask.ensures.1
    (blamed_back Memory (name_faults c.args.file d.word) (declared_faults c.args.file c.args.names.now d.mask) c.in_err-mask.field-0.0 c.in_ok-check_name.ensures.faults.0 c.in_err-mask.ensures.faults.1)

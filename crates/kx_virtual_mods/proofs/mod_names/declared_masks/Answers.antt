use Rattle.std.proofs.Common.{[], ◌++◌, nat_eq}
use Rattle.std.specs.List.{flat_map}
use Rattle.kx_include.specs.Shared.{expanded_body}
use Rattle.kx_lex.specs.declared.fault.Fault.TheVariants.{Memory}
use Rattle.kx_merge.specs.Bodies.{faults_of, no_moves}
use Rattle.kx_virtual_mods.specs.Declarations.{mask_rules, modifier_bodies}
use Rattle.kx_merge.proofs.Going.{reported_or_out}
use Rattle.kx_virtual_mods.proofs.Going.{blamed_second}
use Rattle.kx_virtual_mods.proofs.mod_names.declared_masks.Goals as goal

pub returns-in_err-compat-clause-faults : goal.returns-in_err-compat-clause-faults
returns-in_err-compat-clause-faults c =
    let bodies = c.args.bodies.now in
    let e = c.in_err-compat.field-0.0 in
    reported_or_out c.from_residual-in_err-compat.result (flat_map (faults_of nat_eq (mask_rules c.args.names.now) no_moves) (modifier_bodies bodies)) e c.from_residual-in_err-compat.ensures.1
    (blamed_second Memory (faults_of nat_eq (mask_rules c.args.names.now) no_moves (expanded_body bodies.types)) (faults_of nat_eq (mask_rules c.args.names.now) no_moves (expanded_body bodies.compat)) (faults_of nat_eq (mask_rules c.args.names.now) no_moves (expanded_body bodies.symbols) ++ []) e c.in_ok-types.ensures.faults.0 c.in_err-compat.ensures.faults.1)

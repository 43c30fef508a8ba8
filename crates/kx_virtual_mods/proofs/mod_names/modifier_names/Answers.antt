use Rattle.std.proofs.Common.{◌≡◌, ◌∷◌, [], Contains, IfOk, List, subst}
use Rattle.kx_include.specs.Shared.{expanded_body}
use Rattle.kx_lex.specs.declared.fault.Fault.{Fault}
use Rattle.kx_lex.specs.declared.fault.Fault.TheVariants.{Memory}
use Rattle.kx_merge.specs.Reports.{ReportsOrRunsOut}
use Rattle.kx_virtual_mods.specs.Counted.{Text, all_statements, count_faults, crossing, statements_of}
use Rattle.kx_virtual_mods.specs.Declarations.{modifier_bodies, named_in}
use Rattle.kx_virtual_mods.proofs.Adding.{Passed, first_blamed, second_blamed, third_faults, third_names}
use Rattle.kx_merge.proofs.Going.{reported_or_out}
use Rattle.kx_virtual_mods.proofs.mod_names.modifier_names.Goals as goal

pub returns-in_err-types-clause-faults : goal.returns-in_err-types-clause-faults
returns-in_err-types-clause-faults c =
    let bodies = c.args.bodies.now in
    let a = statements_of (expanded_body bodies.types) in
    let b = statements_of (expanded_body bodies.compat) in
    let s = statements_of (expanded_body bodies.symbols) in
    let e = c.in_err-types.field-0.0 in
    reported_or_out c.from_residual.result (count_faults named_in 24 (all_statements (modifier_bodies bodies))) e c.from_residual.ensures.1
    (first_blamed named_in 24 a b s e (subst (λ (ks : List Text). Contains (Memory ∷ crossing named_in 24 ks a) e) c.new-none.ensures c.in_err-types.ensures.faults.1))

pub returns-in_err-compat-clause-faults : goal.returns-in_err-compat-clause-faults
returns-in_err-compat-clause-faults c =
    let bodies = c.args.bodies.now in
    let a = statements_of (expanded_body bodies.types) in
    let b = statements_of (expanded_body bodies.compat) in
    let s = statements_of (expanded_body bodies.symbols) in
    let e = c.in_err-compat.field-0.0 in
    let one : Passed named_in 24 a b s [] c.in_ok-types.types a =
    subst (λ (ks : List Text). Passed named_in 24 a b s ks c.in_ok-types.types a) c.new-none.ensures (record { added = c.in_ok-types.ensures.names; faultless = c.in_ok-types.ensures.faults.0; few = c.in_ok-types.ensures.few }) in
    reported_or_out c.from_residual-in_err-compat.result (count_faults named_in 24 (all_statements (modifier_bodies bodies))) e c.from_residual-in_err-compat.ensures.1
    (second_blamed named_in 24 a b s c.in_ok-types.types e one c.in_err-compat.ensures.faults.1)

pub returns-clause-names : goal.returns-clause-names
returns-clause-names c =
    let bodies = c.args.bodies.now in
    let a = statements_of (expanded_body bodies.types) in
    let b = statements_of (expanded_body bodies.compat) in
    let s = statements_of (expanded_body bodies.symbols) in
    let one : Passed named_in 24 a b s [] c.in_ok-types.types a =
    subst (λ (ks : List Text). Passed named_in 24 a b s ks c.in_ok-types.types a) c.new-none.ensures (record { added = c.in_ok-types.ensures.names; faultless = c.in_ok-types.ensures.faults.0; few = c.in_ok-types.ensures.few }) in
    let two : Passed named_in 24 a b s c.in_ok-types.types c.in_ok-compat.compat b = record { added = c.in_ok-compat.ensures.names; faultless = c.in_ok-compat.ensures.faults.0; few = c.in_ok-compat.ensures.few } in
    subst (λ (ks : List Text). IfOk c.count_names-3.result (λ names. names ≡ ks)) (third_names named_in 24 a b s c.in_ok-types.types c.in_ok-compat.compat one two) c.count_names-3.ensures.names

pub returns-clause-faults : goal.returns-clause-faults
returns-clause-faults c =
    let bodies = c.args.bodies.now in
    let a = statements_of (expanded_body bodies.types) in
    let b = statements_of (expanded_body bodies.compat) in
    let s = statements_of (expanded_body bodies.symbols) in
    let one : Passed named_in 24 a b s [] c.in_ok-types.types a =
    subst (λ (ks : List Text). Passed named_in 24 a b s ks c.in_ok-types.types a) c.new-none.ensures (record { added = c.in_ok-types.ensures.names; faultless = c.in_ok-types.ensures.faults.0; few = c.in_ok-types.ensures.few }) in
    let two : Passed named_in 24 a b s c.in_ok-types.types c.in_ok-compat.compat b = record { added = c.in_ok-compat.ensures.names; faultless = c.in_ok-compat.ensures.faults.0; few = c.in_ok-compat.ensures.few } in
    subst (λ (fs : List Fault). ReportsOrRunsOut c.count_names-3.result fs) (third_faults named_in 24 a b s c.in_ok-types.types c.in_ok-compat.compat one two) c.count_names-3.ensures.faults

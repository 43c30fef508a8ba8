use Rattle.std.proofs.Common.{◌∷◌, Contains, ◌∙◌}
use Rattle.std.proofs.Math.Path.{fun_ext}
use Rattle.kx_codes.specs.Codes.{name_of}
use Rattle.kx_compat.specs.Meaning.{compat_faults}
use Rattle.kx_include.specs.Shared.{expanded_body}
use Rattle.kx_lex.specs.declared.fault.Fault.{Fault}
use Rattle.kx_lex.specs.declared.fault.Fault.TheVariants.{Memory}
use Rattle.kx_keys.specs.Given.{given_in}
use Rattle.kx_resolve.specs.Modmaps.{modmap_at}
use Rattle.kx_symbols.specs.Keys.{key_at}
use Rattle.kx_clients.specs.Repeats.{key_repeats}
use Rattle.kx_clients.proofs.Faults.{match_refused, memory_first, passed}
use Rattle.kx_clients.proofs.sections.Sections.repeating.Goals as goal

pub returns-in_err-said-clause-err : goal.returns-in_err-said-clause-err
returns-in_err-said-clause-err c =
    let s = c.args.self in
    let faults = compat_faults s.names.now s.modifiers.now.names (expanded_body s.bodies.now.compat) in
    passed c.from_residual.result (λ (e : Fault). Contains (Memory ∷ faults) e) c.in_err-said.field-0.0 c.from_residual.ensures.1 (memory_first faults c.in_err-said.field-0.0 c.in_err-said.ensures.err)

pub returns-in_err-interpreted-clause-err : goal.returns-in_err-interpreted-clause-err
returns-in_err-interpreted-clause-err c =
    let s = c.args.self in
    let body = expanded_body s.bodies.now.compat in
    passed c.from_residual-in_err-interpreted.result (λ (e : Fault). Contains (Memory ∷ compat_faults s.names.now s.modifiers.now.names body) e) c.in_err-interpreted.field-0.0 c.from_residual-in_err-interpreted.ensures.1
    (match_refused s.names.now s.modifiers.now.names body c.in_err-interpreted.field-0.0 c.in_err-interpreted.ensures.faults.1)

pub returns-clause-repeat : goal.returns-clause-repeat
returns-clause-repeat c = λ code less.
    let s = c.args.self in
    let mapped = c.args.mapped.now in
    c.in_ok-repeating.ensures.repeats code less
    ∙ (λ i. key_repeats (fun_ext c.in_ok-interpreted.ensures.repeats i) c.args.interpretations.now (name_of s.codes.now code) (c.in_ok-said.ensures.said code i) (modmap_at mapped.modmaps code) (given_in (key_at mapped.keys code)))

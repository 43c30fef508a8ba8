use Rattle.std.proofs.Common.{◌∷◌, ◌++◌, Contains}
use Rattle.std.proofs.lemmas.List.Elements.{Contains-append_right}
use Rattle.kx_compat.specs.Meaning.{compat_faults}
use Rattle.kx_include.specs.Shared.{expanded_body}
use Rattle.kx_lex.specs.declared.fault.Fault.{Fault}
use Rattle.kx_lex.specs.declared.fault.Fault.TheVariants.{Memory}
use Rattle.kx_merge.proofs.Going.{blamed_front}
use Rattle.kx_resolve.specs.Modmaps.{modmap_at}
use Rattle.kx_source.specs.Made.{mapped_faults}
use Rattle.kx_clients.proofs.Faults.{among_more, memory_first, passed}
use Rattle.kx_clients.proofs.sections.Sections.of_keys.Goals as goal

pub returns-in_err-mapped-clause-err : goal.returns-in_err-mapped-clause-err
returns-in_err-mapped-clause-err c =
    let s = c.args.self in
    let mapped = mapped_faults s.codes.now s.names.now s.modifiers.now.names (expanded_body s.bodies.now.symbols) in
    let compat = compat_faults s.names.now s.modifiers.now.names (expanded_body s.bodies.now.compat) in
    let e = c.in_err-mapped.field-0.0 in
    passed c.from_residual.result (λ (e : Fault). Contains (Memory ∷ (mapped ++ compat)) e) e c.from_residual.ensures.1 (blamed_front Memory mapped compat e c.in_err-mapped.ensures.faults.1)

pub returns-in_err-interpretations-clause-err : goal.returns-in_err-interpretations-clause-err
returns-in_err-interpretations-clause-err c =
    let s = c.args.self in
    let mapped = mapped_faults s.codes.now s.names.now s.modifiers.now.names (expanded_body s.bodies.now.symbols) in
    let compat = compat_faults s.names.now s.modifiers.now.names (expanded_body s.bodies.now.compat) in
    let e = c.in_err-interpretations.field-0.0 in
    passed c.from_residual-in_err-interpretations.result (λ (e : Fault). Contains (Memory ∷ (mapped ++ compat)) e) e c.from_residual-in_err-interpretations.ensures.1
    (among_more compat (mapped ++ compat) e (Contains-append_right mapped compat e) c.in_err-interpretations.ensures.faults.1)

pub returns-in_err-modifiers-clause-err : goal.returns-in_err-modifiers-clause-err
returns-in_err-modifiers-clause-err c =
    let s = c.args.self in
    let mapped = mapped_faults s.codes.now s.names.now s.modifiers.now.names (expanded_body s.bodies.now.symbols) in
    let compat = compat_faults s.names.now s.modifiers.now.names (expanded_body s.bodies.now.compat) in
    let e = c.in_err-modifiers.field-0.0 in
    passed c.from_residual-in_err-modifiers.result (λ (e : Fault). Contains (Memory ∷ (mapped ++ compat)) e) e c.from_residual-in_err-modifiers.ensures.1 (memory_first (mapped ++ compat) e c.in_err-modifiers.ensures.err)

pub returns-in_err-repeating-clause-err : goal.returns-in_err-repeating-clause-err
returns-in_err-repeating-clause-err c =
    let s = c.args.self in
    let mapped = mapped_faults s.codes.now s.names.now s.modifiers.now.names (expanded_body s.bodies.now.symbols) in
    let compat = compat_faults s.names.now s.modifiers.now.names (expanded_body s.bodies.now.compat) in
    let e = c.in_err-repeating.field-0.0 in
    passed c.from_residual-in_err-repeating.result (λ (e : Fault). Contains (Memory ∷ (mapped ++ compat)) e) e c.from_residual-in_err-repeating.ensures.1
    (among_more compat (mapped ++ compat) e (Contains-append_right mapped compat e) c.in_err-repeating.ensures.err)

pub returns-clause-are : goal.returns-clause-are
returns-clause-are c = record {
  keys = c.in_ok-mapped.mapped.keys;
  keys_show = c.in_ok-mapped.ensures.keys;
  modmaps = modmap_at c.in_ok-mapped.mapped.modmaps;
  mapped = c.in_ok-mapped.ensures.mapped;
  interpretations = c.in_ok-interpretations.interpretations;
  interpreted = c.in_ok-interpretations.ensures.shows;
  stand = c.in_ok-modifiers.ensures.stand;
  repeat = c.in_ok-repeating.ensures.repeat;
  few_codes = c.in_ok-repeating.ensures.few;
}

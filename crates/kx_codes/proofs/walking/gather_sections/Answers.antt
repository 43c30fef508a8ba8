use Rattle.std.proofs.Common.{◌≡◌, ◌+◌, [], List, drop, refl, subst}
use Rattle.std.proofs.lemmas.List.{drop_all}
use Rattle.kx_include.specs.Expansion.{End}
use Rattle.kx_include.specs.Shared.{shared_body, shared_sections}
use Rattle.kx_codes.specs.Pairs.{Pair}
use Rattle.kx_codes.proofs.Behind.{Going, all_grow, going_new, going_on, going_blames, split_section, leaves_all, err_gathered}
use Rattle.kx_codes.proofs.Numbering.{grows_none, grows_on}
use Rattle.kx_codes.proofs.walking.gather_sections.Goals as goal

pub sections-init : goal.sections-init
sections-init c = (
  λ bodies are.
      let ms = c.args.sections.now in
      going_new c.args.names.now c.in_ok-gathered.gathered (shared_sections bodies ms) (shared_sections bodies ms) c.in_ok-gathered.ensures.none (λ ps. refl) refl,
  λ once. grows_none c.args.names.now once,
)

pub sections-preserved : goal.sections-preserved
sections-preserved c = (
  λ bodies are.
      let ms = c.args.sections.now in
      let i = c.sections.section-index in
      let m = c.section-item.result in
      let grown = all_grow c.args.names.now c.sections.names (c.sections.invariant.1 are.once) c.args.done.now bodies are in
      going_on (λ (ps : List Pair). ps ≡ []) (shared_sections bodies ms) (shared_sections bodies (drop i ms)) (shared_body bodies m End) (shared_sections bodies (drop (i + 1) ms))
      c.sections.names c.gather_section.new.names c.sections.gathered c.gather_section.new.gathered
      (split_section bodies ms i m c.sections-test.true c.section-item.is) (c.sections.invariant.0 bodies are) (c.in_ok-gather_section.ensures.took bodies grown),
  λ once. grows_on c.args.names.now c.sections.names c.gather_section.new.names (c.sections.invariant.1 once) (c.gather_section.ensures.grows (c.sections.invariant.1 once).once),
)

pub returns-in_err-gather_section-clause-gathered : goal.returns-in_err-gather_section-clause-gathered
returns-in_err-gather_section-clause-gathered c = λ bodies are.
    let ms = c.args.sections.now in
    let i = c.sections.section-index in
    let m = c.section-item.result in
    let e = c.in_err-gather_section.field-0.0 in
    let grown = all_grow c.args.names.now c.sections.names (c.sections.invariant.1 are.once) c.args.done.now bodies are in
    err_gathered c.gather_section.new.names c.from_residual-in_err-gather_section.result (shared_sections bodies ms) e c.from_residual-in_err-gather_section.ensures.1
    (going_blames (λ (ps : List Pair). ps ≡ []) (shared_sections bodies ms) (shared_sections bodies (drop i ms)) (shared_body bodies m End) (shared_sections bodies (drop (i + 1) ms)) c.sections.names c.sections.gathered e
    (split_section bodies ms i m c.sections-test.true c.section-item.is) (c.sections.invariant.0 bodies are) (c.in_err-gather_section.ensures.fault bodies grown))

pub returns-in_err-gather_section-clause-grows : goal.returns-in_err-gather_section-clause-grows
returns-in_err-gather_section-clause-grows c = λ once. grows_on c.args.names.now c.sections.names c.gather_section.new.names (c.sections.invariant.1 once) (c.gather_section.ensures.grows (c.sections.invariant.1 once).once)

pub returns-clause-gathered : goal.returns-clause-gathered
returns-clause-gathered c = λ bodies are.
    leaves_all c.sections.names c.sections.gathered (shared_sections bodies c.args.sections.now)
    (subst (λ ms. Going (λ ps. ps ≡ []) c.sections.names c.sections.gathered (shared_sections bodies c.args.sections.now) (shared_sections bodies ms)) (drop_all c.sections.section-index c.args.sections.now c.sections-test.false) (c.sections.invariant.0 bodies are))

use Rattle.std.proofs.Common.{ℕ, ◌≡◌, ◌+◌, ◌<◌, ◌++◌, ◌∷◌, [], None, Some, suc, List, Option, length, take, sym, ◌∙◌, ap, subst, arith}
use Rattle.std.proofs.lemmas.List.{length-map}
use Rattle.std.specs.Option.{IfSome}
use Rattle.kx_lex.specs.declared.token.Span.{Span}
use Rattle.kx_parse.specs.Outline.{IsNumbered, built_from}
use Rattle.kx_tree.specs.declared.tree.Section.{Section}
use Rattle.kx_parse.proofs.BuiltSections.{built-all, built-set, built-skip, trees}
use Rattle.kx_parse.proofs.outline.built_sections.Goals as goal

pub sections-preserved-then-not-is_wanted : goal.sections-preserved-then-not-is_wanted
sections-preserved-then-not-is_wanted c =
    let next : suc c.sections.number ≡ c.sections.number + 1 = omega arith in
    record {
      built = λ is.
          let stood = c.as_slice-places.ensures ∙ is.places in
          let many = ap (λ (ps : List Span). length ps) stood in
          let count = length-map is.sections (λ (s : Section × Span). s.1) in
          let less : c.sections.number < length is.sections = (let within = c.sections-test.true in omega (arith, within, many, count)) in
          let skip = built-skip c.args.wanted.now is.sections c.sections.number less (sym c.is_wanted.ensures ∙ c.if-not-is_wanted.true) in
          c.in_ok-push.ensures.items ∙ ap (λ (bs : List (Option Section)). bs ++ None ∷ []) (c.sections.invariant.built is) ∙ sym skip ∙ ap (λ (n : ℕ). take n (built_from c.args.wanted.now (trees is.sections))) next;
    }

pub sections-preserved : goal.sections-preserved
sections-preserved c =
    let next : suc c.sections.number ≡ c.sections.number + 1 = omega arith in
    let Known : Option Section → Type 0 = λ o. IfSome o (λ s. IsNumbered c.args.text.now c.as_slice-places.result.now c.sections.number s) in
    let known : IsNumbered c.args.text.now c.as_slice-places.result.now c.sections.number c.in-Some.section = subst Known c.in-Some.is c.in_ok-section.ensures.section in
    record {
      built = λ is.
          let stood = c.as_slice-places.ensures ∙ is.places in
          let there = known is.tokens is.sections is.reading is.placed stood in
          let set = built-set c.args.wanted.now is.sections c.sections.number (c.in-Some.section, there.0) (sym c.is_wanted.ensures ∙ c.if-not-is_wanted.false) there.1 in
          c.in_ok-push-2.ensures.items ∙ ap (λ (bs : List (Option Section)). bs ++ Some c.in-Some.section ∷ []) (c.sections.invariant.built is) ∙ sym set ∙ ap (λ (n : ℕ). take n (built_from c.args.wanted.now (trees is.sections))) next;
    }

pub returns-clause-built : goal.returns-clause-built
returns-clause-built c is =
    let stood = c.as_slice-places.ensures ∙ is.places in
    let many = ap (λ (ps : List Span). length ps) stood in
    let count = length-map is.sections (λ (s : Section × Span). s.1) in
    let end = c.sections-test.false in
    c.sections.invariant.built is ∙ built-all c.args.wanted.now is.sections c.sections.number (omega (arith, end, many, count))

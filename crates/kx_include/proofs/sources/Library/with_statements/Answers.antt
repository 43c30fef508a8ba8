use Rattle.std.proofs.Common.{rules, ℕ, ◌≡◌, ◌∙◌, ◌+◌, ◌++◌, ◌∷◌, [], List, Ok, Option, ap, append-nil, append_assoc, length, length-append, map, refl, subst, sym, arith}
use Rattle.std.specs.Option.{option_copied}
use Rattle.std.specs.Vec.Iter.{into_iter_items}
use Rattle.kx_include.specs.FileText.{FileText}
use Rattle.kx_include.specs.Held.{Holds, StandsFor, IsSketch, file_by}
use Rattle.kx_include.specs.Library.{Library, Text}
use Rattle.kx_include.proofs.Answering.{Answers, AreAnswers, answer_none, answered-more, answered-length, answers-held, no-length}
use Rattle.kx_include.proofs.Outlining.{IsReached, agrees}
use Rattle.kx_include.proofs.Reached.{stands-for}
use Rattle.kx_include.proofs.sources.Library.with_statements.Goals as goal

pub texts-init : goal.texts-init
texts-init c =
    let own : c.self.inside.texts.items ≡ c.args.self.texts = ap (λ (l : Library). l.texts) c.self.view_is in
    let none = subst (λ (hs : List Text). AreAnswers c.args.wanted.now (file_by (map option_copied c.args.outlines.now)) 0 [] hs) (sym c.in_ok-held.ensures.items) answer_none in
    (tt, tt, search rules, ([], c.into_iter-text-iterator.ensures.into_iter_gives.0 ∙ own, refl, none))

pub overflow_add-number : goal.overflow_add-number
overflow_add-number c =
    let before = c.texts.invariant.3 in
    let all = ap (λ (ts : List Text). length ts) before.1 in
    let own : c.self.inside.texts.items ≡ c.args.self.texts = ap (λ (l : Library). l.texts) c.self.view_is in
    let many = ap (λ (ts : List Text). length ts) own in
    let few = c.self.invariant.0 in
    let paired = c.self.invariant.1 in
    let count = before.2 in
    omega (arith, all, many, few, paired, count, length-append before.0 (into_iter_items c.texts.text-iterator))

pub texts-preserved : goal.texts-preserved
texts-preserved c =
    let before = c.texts.invariant.3 in
    let steps = c.in-Some.ensures.steps.0 in
    let answer : Answers c.args.wanted.now (file_by (map option_copied c.args.outlines.now)) c.texts.number c.in-Some.text c.in_ok-with_statements.field-0 = λ whole sketch.
    let at_file = subst (λ (f : Option FileText). IsSketch c.in-Some.text f whole) (sym c.file_at-file.ensures) sketch in
    subst (λ (ws : _). Holds ws c.in-Some.text c.in_ok-with_statements.field-0 whole) c.of_text.ensures (c.in_ok-with_statements.ensures.held whole at_file) in
    let here : 0 + length before.0 ≡ c.texts.number = (let e = before.2 in omega (arith, e)) in
    let more = answered-more c.args.wanted.now (file_by (map option_copied c.args.outlines.now)) 0 c.in-Some.text c.in_ok-with_statements.field-0 before.3 (subst (λ (n : ℕ). Answers c.args.wanted.now (file_by (map option_copied c.args.outlines.now)) n c.in-Some.text c.in_ok-with_statements.field-0) (sym here) answer) in (
      tt,
      tt,
      (let left = c.texts.invariant.2 in let gone = c.in-Some.ensures.steps.1 in let short = ap (λ (ts : List Text). length ts) steps in omega (arith, left, gone, short)),
      (
        before.0 ++ c.in-Some.text ∷ [],
        append_assoc before.0 (c.in-Some.text ∷ []) (into_iter_items c.next.new.self) ∙ ap (λ (ts : List Text). before.0 ++ ts) (sym steps) ∙ before.1,
        (let e = before.2 in omega (arith, e, length-append before.0 (c.in-Some.text ∷ []))),
        subst (λ (hs : List Text). AreAnswers c.args.wanted.now (file_by (map option_copied c.args.outlines.now)) 0 (before.0 ++ c.in-Some.text ∷ []) hs) (sym c.in_ok-push.ensures.items) more,
      ),
    )

pub invariant_of-result : goal.invariant_of-result
invariant_of-result c =
    let end = c.in-None.ensures.steps.0 in
    let left = c.texts.invariant.2 in
    let before = c.texts.invariant.3 in
    let all = ap (λ (ts : List Text). length ts) before.1 in
    let own : c.self.inside.texts.items ≡ c.args.self.texts = ap (λ (l : Library). l.texts) c.self.view_is in
    let many = ap (λ (ts : List Text). length ts) own in
    let answers = answered-length before.3 in
    (c.self.invariant.0, (let paired = c.self.invariant.1 in omega (arith, end, left, all, many, answers, paired, length-append before.0 (into_iter_items c.texts.text-iterator))))

pub returns-clause-held : goal.returns-clause-held
returns-clause-held c tree files are closed =
    let before = c.texts.invariant.3 in
    let none : into_iter_items c.texts.text-iterator ≡ [] = no-length (into_iter_items c.texts.text-iterator) (let left = c.texts.invariant.2 in let end = c.in-None.ensures.steps.0 in omega (arith, left, end)) in
    let whole_before : before.0 ≡ c.args.self.texts = sym (append-nil before.0) ∙ ap (λ (ts : List Text). before.0 ++ ts) (sym none) ∙ before.1 in
    let answers = subst (λ (ts : List Text). AreAnswers c.args.wanted.now (file_by (map option_copied c.args.outlines.now)) 0 ts c.texts.held.items) whole_before before.3 in
    let from_zero : (k : ℕ) → 0 + k ≡ k = λ k. omega arith in
    let held = answers-held c.args.wanted.now (file_by (map option_copied c.args.outlines.now)) 0 are.sketches answers (λ k. ap (file_by (map option_copied c.args.outlines.now)) (from_zero k)) in
    let names = c.args.self.names in
    let stands = stands-for (record { names = names; texts = c.texts.held.items }) (record { names = names; texts = Ok tree ∷ are.wholes }) (IsReached names c.args.wanted.now c.args.self.texts c.texts.held.items (Ok tree ∷ are.wholes) held closed) (agrees names c.args.wanted.now c.args.self.texts c.texts.held.items (Ok tree ∷ are.wholes) held closed) in
    let own : map (λ f. f.0) c.self.inside.files.now ≡ names = ap (λ (l : Library). l.names) c.self.view_is in
    record {
      whole = record { names = names; texts = Ok tree ∷ are.wholes };
      read = record { names = are.names; texts = (are.wholes, refl, are.texts) };
      stands = subst (λ (ns : List (List ℕ)). StandsFor (record { names = ns; texts = c.texts.held.items }) (record { names = names; texts = Ok tree ∷ are.wholes })) (sym own) stands;
    }

use Rattle.std.proofs.Common.{ℕ, ◌+◌, ◌≡◌, length, arith, sym, ◌∙◌, get_or, rules, ap, List, ◌-◌, inl, inr}
use Rattle.std.proofs.lemmas.Bool.{cases_lt}
use Rattle.std.proofs.lemmas.Slice.Eq.{bytes_eq-Decides}
use Rattle.kx_tables.proofs.Sorting.{all_apart, repeats, sorted_by_name}
use Rattle.kx_tables.proofs.check.distinct.repeated_in.Goals as goal

pub returns-then-eq-clause-some : goal.returns-then-eq-clause-some
returns-then-eq-clause-some g c =
    let same = (bytes_eq-Decides c.name.result.now c.name-in-loop-index.result.now).0 (sym c.eq.ensures ∙ c.if-eq.true) in
    let whole : length c.number.new.order ≡ length c.args.order.now = omega arith in
    rw (← whole) (repeats (g.L.NameList.name c.args.list.now) c.number.new.order c.sort_unstable_by.new.self (λ k lt. omega (arith, c.number.ensures k lt)) c.sort_unstable_by.ensures.permutation _ _ _
    (omega arith) (omega (arith, c.sort_unstable_by.ensures.len)) (sym c.name.ensures ∙ same ∙ c.name-in-loop-index.ensures) c.max.ensures)

pub returns-clause-none : goal.returns-clause-none
returns-clause-none g c =
    let whole : length c.number.new.order ≡ length c.args.order.now = omega arith in
    rw (← whole) (all_apart (g.L.NameList.name c.args.list.now) c.number.new.order c.sort_unstable_by.new.self (λ k lt. omega (arith, c.number.ensures k lt)) c.sort_unstable_by.ensures.permutation
    (sorted_by_name (g.L.NameList.name c.args.list.now) c.sort_unstable_by.new.self c.sort_unstable_by.ensures.sorted (λ a r q k. search rules))
    (λ k lt. c.loop-index.invariant k (omega arith)))

pub loop-index-preserved : goal.loop-index-preserved
loop-index-preserved g c = λ k lt same.
    elim (cases_lt (k + 1) c.loop-index.index) [
      | inl earlier ↦ c.loop-index.invariant k earlier same
      | inr here ↦
          let name_at : ℕ → List ℕ = λ p. g.L.NameList.name c.args.list.now (get_or c.sort_unstable_by.new.self p 0) in
          let first : c.loop-index.index - 1 ≡ k = omega arith in
          let second : k + 1 ≡ c.loop-index.index = omega arith in
          let equal : c.name.result.now ≡ c.name-in-loop-index.result.now = c.name.ensures ∙ ap name_at first ∙ same ∙ ap name_at second ∙ sym c.name-in-loop-index.ensures in
          let tested = (bytes_eq-Decides c.name.result.now c.name-in-loop-index.result.now).1 equal in
          let answered = c.eq.ensures in
          cc (c.if-eq.false)
    ]

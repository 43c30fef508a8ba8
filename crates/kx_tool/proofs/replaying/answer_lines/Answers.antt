use Rattle.std.proofs.Common.{◌≡◌, ◌+◌, ◌∷◌, [], ap, subst, ◌∙◌, refl, arith}
use Rattle.std.proofs.lemmas.Bool.{ne_eqb}
use Rattle.kx_lines.specs.Input.{Came, FailsBehind, budget, coming}
use Rattle.kx_tool.proofs.Ends.{answered_byte, answered_line, answered_nothing, answered_part, answered_put, failed_reading, line_comes, line_comes_last, line_ends, number_small, replays_ended, replays_failed, replays_stopped}
use Rattle.kx_lines.proofs.Reading.{fails_from, within_at_end, within_whatever}
use Rattle.kx_tool.proofs.replaying.answer_lines.Goals as goal
use Rattle.kx_tool.proofs.replaying.answer_lines.Goals.{in-Ok-finish_line, in-Err-finish_line}

pub lines-init : goal.lines-init
lines-init g c =
    record {
      answered = answered_nothing g.O.Out.written g.O.Out.failures _ _ _ _ _ _ _ _ c.new-buffered.ensures c.new-line.ensures c.in-Ok.ensures;
      counted = refl;
      taken = refl;
    }

pub returns-in-Err-clause-answers : goal.returns-in-Err-clause-answers
returns-in-Err-clause-answers g c =
    let moved = answered_part g.O.Out.written g.O.Out.failures _ _ _ (g.F.Feed.left c.lines.feed) _ c.lines.input c.fill_line.new.self _ _ _ _ _ _ _ c.lines.invariant.answered c.fill_line.ensures in
    replays_failed g.O.Out.written g.O.Out.failures _ _ _ _ _ _ c.args.out.now c.lines.out c.next_byte.new.out c.lines.buffered _ _ _
    (FailsBehind g.F.Feed.left g.F.Feed.taken g.F.Feed.failures c.fill_line.new.self c.lines.feed c.next_byte.new.feed) c.in-Err.fault moved c.in-Err.ensures.failed

pub returns-in-Err-clause-read : goal.returns-in-Err-clause-read
returns-in-Err-clause-read g c = λ is.
    let moved = answered_part g.O.Out.written g.O.Out.failures _ _ _ (g.F.Feed.left c.lines.feed) _ c.lines.input c.fill_line.new.self _ _ _ _ _ _ _ c.lines.invariant.answered c.fill_line.ensures in
    fails_from g.F.Feed.left g.F.Feed.taken g.F.Feed.failures c.args.feed.now c.lines.feed c.next_byte.new.feed c.args.input.now c.fill_line.new.self _ c.lines.invariant.counted (ap (λ n. g.F.Feed.taken c.lines.feed + n) c.fill_line.ensures.allowed ∙ c.lines.invariant.taken) moved.came
    (failed_reading g.O.Out.written g.O.Out.failures c.lines.out c.next_byte.new.out c.lines.buffered
    (FailsBehind g.F.Feed.left g.F.Feed.taken g.F.Feed.failures c.fill_line.new.self c.lines.feed c.next_byte.new.feed) c.in-Err.fault c.in-Err.ensures.failed is)

pub returns-in-None-clause-answers : goal.returns-in-None-clause-answers
returns-in-None-clause-answers g c =
    let moved = answered_part g.O.Out.written g.O.Out.failures _ _ _ (g.F.Feed.left c.lines.feed) _ c.lines.input c.fill_line.new.self _ _ _ _ _ _ _ c.lines.invariant.answered c.fill_line.ensures in
    let h = answered_put g.O.Out.written g.O.Out.failures _ _ _ _ _ _ c.args.out.now c.lines.out c.next_byte.new.out c.lines.buffered c.next_byte.new.buffered _ _ _ moved c.in-Ok-next_byte.ensures.put in
    let end = rw c.in-None.is at c.in-Ok-next_byte.ensures.none in
    elim c.match-finish_line.branch [
      | in-Ok-finish_line w ↦
          rw (w.out-is, w.result-is)
          (replays_ended g.O.Out.written g.O.Out.failures _ _ _ _ _ _ c.args.out.now c.next_byte.new.out c.finish_line.new.out w.put.new.out c.next_byte.new.buffered c.finish_line.new.buffered _ _ _ w.put.result h end
          (w.in-Ok-finish_line.ensures.formed h.part h.keeps) (w.in-Ok-finish_line.ensures.told h.part h.keeps) w.put.ensures.put w.put.ensures.fault)
      | in-Err-finish_line w ↦
          rw (w.out-is, w.result-is)
          (replays_stopped g.O.Out.written g.O.Out.failures _ _ _ _ _ _ c.args.out.now c.next_byte.new.out c.finish_line.new.out c.next_byte.new.buffered _ _ _ w.in-Err-finish_line.fault h
          (line_comes_last g.O.Out.written g.O.Out.failures _ _ _ (line_ends g.O.Out.written g.O.Out.failures _ _ _ _ _ _ _ _ _ _ _ _ h end)) w.in-Err-finish_line.ensures.stopped)
    ]

pub returns-in-Err-finish_line-2-clause-answers : goal.returns-in-Err-finish_line-2-clause-answers
returns-in-Err-finish_line-2-clause-answers g c =
    let moved = answered_part g.O.Out.written g.O.Out.failures _ _ _ (g.F.Feed.left c.lines.feed) _ c.lines.input c.fill_line.new.self _ _ _ _ _ _ _ c.lines.invariant.answered c.fill_line.ensures in
    let h = answered_put g.O.Out.written g.O.Out.failures _ _ _ _ _ _ c.args.out.now c.lines.out c.next_byte.new.out c.lines.buffered c.next_byte.new.buffered _ _ _ moved c.in-Ok-next_byte.ensures.put in
    let ten : c.in-Some-eq10.field-0 ≡ 10 = rw c.in-Some-eq10.is at c.in-Some-eq10.field-0-test in
    let came : Came (coming c.fill_line.new.self (g.F.Feed.left c.lines.feed)) (budget c.fill_line.new.self) (coming c.next_byte.new.input (g.F.Feed.left c.next_byte.new.feed)) (budget c.next_byte.new.input) (c.in-Some-eq10.field-0 ∷ []) =
    rw c.in-Some-eq10.is at c.in-Ok-next_byte.ensures.some in
    replays_stopped g.O.Out.written g.O.Out.failures _ _ _ _ _ _ c.args.out.now c.next_byte.new.out c.finish_line-in-Some-eq10.new.out c.next_byte.new.buffered _ _ _ c.in-Err-finish_line-2.fault h
    (line_comes g.O.Out.written g.O.Out.failures _ _ _ _ _ _ _ _ _ _ _ _ _ _ h
    (subst (λ b. Came (coming c.fill_line.new.self (g.F.Feed.left c.lines.feed)) (budget c.fill_line.new.self) (coming c.next_byte.new.input (g.F.Feed.left c.next_byte.new.feed)) (budget c.next_byte.new.input) (b ∷ [])) ten came))
    c.in-Err-finish_line-2.ensures.stopped

pub overflow_add-number : goal.overflow_add-number
overflow_add-number g c =
    let small = number_small g.O.Out.written g.O.Out.failures _ _ _ _ _ _ _ _ _ _ _ _ c.lines.invariant.answered in record { fits = omega (arith, small, c.requires) }

pub lines-preserved-in-Some-eq10 : goal.lines-preserved-in-Some-eq10
lines-preserved-in-Some-eq10 g c =
    let moved = answered_part g.O.Out.written g.O.Out.failures _ _ _ (g.F.Feed.left c.lines.feed) _ c.lines.input c.fill_line.new.self _ _ _ _ _ _ _ c.lines.invariant.answered c.fill_line.ensures in
    let h = answered_put g.O.Out.written g.O.Out.failures _ _ _ _ _ _ c.args.out.now c.lines.out c.next_byte.new.out c.lines.buffered c.next_byte.new.buffered _ _ _ moved c.in-Ok-next_byte.ensures.put in
    let ten : c.in-Some-eq10.field-0 ≡ 10 = rw c.in-Some-eq10.is at c.in-Some-eq10.field-0-test in
    let came : Came (coming c.fill_line.new.self (g.F.Feed.left c.lines.feed)) (budget c.fill_line.new.self) (coming c.next_byte.new.input (g.F.Feed.left c.next_byte.new.feed)) (budget c.next_byte.new.input) (c.in-Some-eq10.field-0 ∷ []) =
    rw c.in-Some-eq10.is at c.in-Ok-next_byte.ensures.some in
    record {
      answered = answered_line g.O.Out.written g.O.Out.failures _ _ _ _ _ _ _ _ c.args.out.now c.next_byte.new.out c.finish_line-in-Some-eq10.new.out c.next_byte.new.buffered c.finish_line-in-Some-eq10.new.buffered _ _ _ _ _ h
          (subst (λ b. Came (coming c.fill_line.new.self (g.F.Feed.left c.lines.feed)) (budget c.fill_line.new.self) (coming c.next_byte.new.input (g.F.Feed.left c.next_byte.new.feed)) (budget c.next_byte.new.input) (b ∷ [])) ten came)
          c.in-Ok-finish_line-2.ensures.formed c.in-Ok-finish_line-2.ensures.told c.in-Ok-finish_line-2.ensures.world c.clear.ensures;
      counted = c.in-Ok-next_byte.ensures.counted ∙ c.lines.invariant.counted;
      taken = c.in-Ok-next_byte.ensures.taken ∙ ap (λ n. g.F.Feed.taken c.lines.feed + n) c.fill_line.ensures.allowed ∙ c.lines.invariant.taken;
    }

pub lines-preserved : goal.lines-preserved
lines-preserved g c =
    let moved = answered_part g.O.Out.written g.O.Out.failures _ _ _ (g.F.Feed.left c.lines.feed) _ c.lines.input c.fill_line.new.self _ _ _ _ _ _ _ c.lines.invariant.answered c.fill_line.ensures in
    let h = answered_put g.O.Out.written g.O.Out.failures _ _ _ _ _ _ c.args.out.now c.lines.out c.next_byte.new.out c.lines.buffered c.next_byte.new.buffered _ _ _ moved c.in-Ok-next_byte.ensures.put in
    let test = rw c.in-Some.is at c.in-Some.byte-test in
    let other : c.in-Some.byte ≡ 10 → ⊥ = test.1 in
    let came : Came (coming c.fill_line.new.self (g.F.Feed.left c.lines.feed)) (budget c.fill_line.new.self) (coming c.next_byte.new.input (g.F.Feed.left c.next_byte.new.feed)) (budget c.next_byte.new.input) (c.in-Some.byte ∷ []) =
    rw c.in-Some.is at c.in-Ok-next_byte.ensures.some in
    record {
      answered = answered_byte g.O.Out.written g.O.Out.failures _ _ _ _ _ _ _ _ _ _ _ _ _ _ _ c.in-Some.byte h came (ne_eqb c.in-Some.byte 10 other) c.push.ensures;
      counted = c.in-Ok-next_byte.ensures.counted ∙ c.lines.invariant.counted;
      taken = c.in-Ok-next_byte.ensures.taken ∙ ap (λ n. g.F.Feed.taken c.lines.feed + n) c.fill_line.ensures.allowed ∙ c.lines.invariant.taken;
    }

pub returns-in-None-clause-whole : goal.returns-in-None-clause-whole
returns-in-None-clause-whole g c =
    let moved = answered_part g.O.Out.written g.O.Out.failures _ _ _ (g.F.Feed.left c.lines.feed) _ c.lines.input c.fill_line.new.self _ _ _ _ _ _ _ c.lines.invariant.answered c.fill_line.ensures in
    let end = rw c.in-None.is at c.in-Ok-next_byte.ensures.none in
    within_whatever c.match-finish_line.result (within_at_end _ _ _ _ _ moved.came end)

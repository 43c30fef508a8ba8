use Rattle.std.proofs.Common.{◌≡◌, ◌∷◌, [], true, false, length, sym, ap, subst, ◌∙◌}
use Rattle.std.proofs.lemmas.Bool.{ne_eqb}
use Rattle.kx_lines.specs.Input.{Came, budget, coming}
use Rattle.kx_lines.specs.Sources.{ReadsSource, is_mark}
use Rattle.kx_lines.proofs.ReadingSources.{SourceSoFar, line_front, line_part, source_byte, source_ends, source_ends_marked, source_line, source_marked}
use Rattle.kx_lines.proofs.source.read_source.Goals as goal

pub returns-in-None-clause-source : goal.returns-in-None-clause-source
returns-in-None-clause-source g c =
    let h = c.loop-byte.invariant.read in
    let end = rw c.in-None.is at c.in-Ok.ensures.none in
    let marked : is_mark h.part ≡ true = sym (c.if-ends_in_mark.ensures ∙ ap is_mark (line_part _ _ _ _ _ _ h)) in
    subst (λ t. ReadsSource (coming c.args.input.now (g.F.Feed.left c.args.feed.now)) (budget c.args.input.now) (coming c.next_byte.new.self (g.F.Feed.left c.next_byte.new.feed)) (budget c.next_byte.new.self) t c.cut.result.has_lines)
    (sym (c.cut.ensures.text ∙ line_front _ _ _ _ _ _ h))
    (rw c.cut.ensures.has_lines (source_ends_marked _ _ _ _ _ _ _ _ h end marked))

pub returns-in-None-2-clause-source : goal.returns-in-None-2-clause-source
returns-in-None-2-clause-source g c =
    let h = c.loop-byte.invariant.read in
    let end = rw c.in-None.is at c.in-Ok.ensures.none in
    let unmarked : is_mark h.part ≡ false = sym (c.if-ends_in_mark.ensures ∙ ap is_mark (line_part _ _ _ _ _ _ h)) in
    source_ends _ _ _ _ _ _ _ _ h end unmarked

pub returns-in-Some-eq10-clause-source : goal.returns-in-Some-eq10-clause-source
returns-in-Some-eq10-clause-source g c =
    let h = c.loop-byte.invariant.read in
    let ten : c.in-Some-eq10.field-0 ≡ 10 = rw c.in-Some-eq10.is at c.in-Some-eq10.field-0-test in
    let came : Came (coming c.loop-byte.input (g.F.Feed.left c.loop-byte.feed)) (budget c.loop-byte.input) (coming c.next_byte.new.self (g.F.Feed.left c.next_byte.new.feed)) (budget c.next_byte.new.self) (c.in-Some-eq10.field-0 ∷ []) =
    rw c.in-Some-eq10.is at c.in-Ok.ensures.some in
    let marked : is_mark h.part ≡ true = sym (c.if-ends_in_mark-2.ensures ∙ ap is_mark (line_part _ _ _ _ _ _ h)) in
    subst (λ t. ReadsSource (coming c.args.input.now (g.F.Feed.left c.args.feed.now)) (budget c.args.input.now) (coming c.next_byte.new.self (g.F.Feed.left c.next_byte.new.feed)) (budget c.next_byte.new.self) t c.cut-in-Some-eq10.result.has_lines)
    (sym (c.cut-in-Some-eq10.ensures.text ∙ line_front _ _ _ _ _ _ h))
    (rw c.cut-in-Some-eq10.ensures.has_lines
    (source_marked _ _ _ _ _ _ _ _ h
    (subst (λ b. Came (coming c.loop-byte.input (g.F.Feed.left c.loop-byte.feed)) (budget c.loop-byte.input) (coming c.next_byte.new.self (g.F.Feed.left c.next_byte.new.feed)) (budget c.next_byte.new.self) (b ∷ [])) ten came)
    marked))

pub loop-byte-preserved-in-Some-eq10-2 : goal.loop-byte-preserved-in-Some-eq10-2
loop-byte-preserved-in-Some-eq10-2 g c =
    let h = c.loop-byte.invariant.read in
    let ten : c.in-Some-eq10-2.field-0 ≡ 10 = rw c.in-Some-eq10-2.is at c.in-Some-eq10.field-0-test in
    let came : Came (coming c.loop-byte.input (g.F.Feed.left c.loop-byte.feed)) (budget c.loop-byte.input) (coming c.next_byte.new.self (g.F.Feed.left c.next_byte.new.feed)) (budget c.next_byte.new.self) (c.in-Some-eq10-2.field-0 ∷ []) =
    rw c.in-Some-eq10-2.is at c.in-Ok.ensures.some in
    let unmarked : is_mark h.part ≡ false = sym (c.if-ends_in_mark-2.ensures ∙ ap is_mark (line_part _ _ _ _ _ _ h)) in
    let whole = source_line _ _ _ _ _ _ _ _ h
    (subst (λ b. Came (coming c.loop-byte.input (g.F.Feed.left c.loop-byte.feed)) (budget c.loop-byte.input) (coming c.next_byte.new.self (g.F.Feed.left c.next_byte.new.feed)) (budget c.next_byte.new.self) (b ∷ [])) ten came)
    unmarked in
    record {
      read = subst (λ i. SourceSoFar (coming c.args.input.now (g.F.Feed.left c.args.feed.now)) (budget c.args.input.now) (coming c.next_byte.new.self (g.F.Feed.left c.next_byte.new.feed)) (budget c.next_byte.new.self) c.push.new.text.items i)
          (sym (c.len-line_start.ensures ∙ c.push.new.text.ok.0))
          (subst (λ t. SourceSoFar (coming c.args.input.now (g.F.Feed.left c.args.feed.now)) (budget c.args.input.now) (coming c.next_byte.new.self (g.F.Feed.left c.next_byte.new.feed)) (budget c.next_byte.new.self) t (length t))
          (sym c.in_ok-push-in-Some-eq10-2.ensures.pushed) whole);
      counted = c.in-Ok.ensures.counted ∙ c.loop-byte.invariant.counted;
      taken = c.in-Ok.ensures.taken ∙ c.loop-byte.invariant.taken;
    }

pub loop-byte-preserved : goal.loop-byte-preserved
loop-byte-preserved g c =
    let h = c.loop-byte.invariant.read in
    let test = rw c.in-Some.is at c.in-Some.byte-test in
    let other : c.in-Some.byte ≡ 10 → ⊥ = test.1 in
    let came : Came (coming c.loop-byte.input (g.F.Feed.left c.loop-byte.feed)) (budget c.loop-byte.input) (coming c.next_byte.new.self (g.F.Feed.left c.next_byte.new.feed)) (budget c.next_byte.new.self) (c.in-Some.byte ∷ []) =
    rw c.in-Some.is at c.in-Ok.ensures.some in
    record {
      read = subst (λ t. SourceSoFar (coming c.args.input.now (g.F.Feed.left c.args.feed.now)) (budget c.args.input.now) (coming c.next_byte.new.self (g.F.Feed.left c.next_byte.new.feed)) (budget c.next_byte.new.self) t c.loop-byte.line_start)
          (sym c.in_ok-push-in-Some.ensures.pushed) (source_byte _ _ _ _ _ _ _ _ c.in-Some.byte h came (ne_eqb c.in-Some.byte 10 other));
      counted = c.in-Ok.ensures.counted ∙ c.loop-byte.invariant.counted;
      taken = c.in-Ok.ensures.taken ∙ c.loop-byte.invariant.taken;
    }

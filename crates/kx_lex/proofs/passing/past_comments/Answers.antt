use Rattle.std.proofs.Common.{ℕ, List, ap, arith, length, length-drop}
use Rattle.kx_lex.proofs.PassedOver.{Skips-more, Skips-on}
use Rattle.kx_lex.proofs.passing.past_comments.Goals as goal

pub gaps-preserved : goal.gaps-preserved
gaps-preserved c =
    let on = Skips-on c.gaps.invariant.skips c.in-Some.len c.in-Some.ensures.within c.in-Some.ensures.comment in
    record {
      skips = Skips-more (rw c.past.ensures on) c.past_blanks-rest.ensures.skips;
      within =
          let less = c.past_blanks-rest.ensures.within in
          let dropped = ap (λ (bs : List ℕ). length bs) c.past.ensures in
          let before = c.gaps.invariant.within in
          omega (arith, length-drop c.in-Some.len c.gaps.rest.now);
      none = c.past_blanks-rest.ensures.none;
    }

use Rattle.std.proofs.Common.{ℕ, List, take, ◌++◌, sym, ◌∙◌, ap, subst, append-nil}
use Rattle.kx_lex.specs.Passing.{Skips}
use Rattle.kx_lex.specs.PlacedTokens.{front_until}
use Rattle.kx_lex.specs.declared.token.Token.{Token}
use Rattle.kx_lex.proofs.PassedOver.{Ends-drop, Ends-more}
use Rattle.kx_lex.proofs.PlacedTokens.{reads-end}
use Rattle.kx_lex.proofs.fronts.lex_front.Goals.{in-Some+in_ok-push, in_default}
use Rattle.kx_lex.proofs.fronts.lex_front.Goals as goal

pub take_until-requires-clause-ends : goal.take_until-requires-clause-ends
take_until-requires-clause-ends c =
    let skips = subst (λ (bs : List ℕ). Skips bs c.past_gaps-first.result.now) c.after.ensures c.past_gaps-first.ensures.skips in
    Ends-more (Ends-drop c.args.place.start c.args.text.now) skips.ends

pub returns : goal.returns
returns c us r =
    let skips = subst (λ (bs : List ℕ). Skips bs c.past_gaps-first.result.now) c.after.ensures c.past_gaps-first.ensures.skips in
    let start = skips.leaves c.args.text.now us (Ends-drop c.args.place.start c.args.text.now) (reads-end c.args.text.now c.args.place.start us r) in
    let taken = c.in_ok-rest.ensures.taken us start in
    let initial = ap (λ (ts : List Token). ts ++ front_until c.args.place.stop us) c.in_ok-tokens.ensures.items in
    let all = taken.2 ∙ initial in
    elim c.match-take_token.branch [
      | in-Some+in_ok-push w ↦
          let more = w.in-Some.ensures.token taken.0 taken.1 in
          let pushed = ap (λ (v : _). v.items) w.tokens-is ∙ w.in_ok-push.ensures.items in
          let one = ap (λ (ts : List Token). c.take_until.new.tokens.items ++ take 1 ts) more.1 in
          pushed ∙ sym one ∙ all
      | in_default w ↦
          let none = w.in_default.ensures.none taken.0 taken.1 in
          let kept = ap (λ (v : _). v.items) w.tokens-is in
          let nothing = ap (λ (ts : List Token). c.take_until.new.tokens.items ++ take 1 ts) none ∙ append-nil _ in
          kept ∙ sym nothing ∙ all
    ]

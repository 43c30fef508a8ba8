use Rattle.std.proofs.Common.{◌≡◌, ◌<◌, inl, inr, arith, length, rules}
use Rattle.std.proofs.lemmas.Bool.{cases_lt}
use Rattle.std.proofs.lemmas.Option.{slice_get_within}
use Rattle.kx_text.proofs.finding.spots.Goals as goal

pub loop-key-preserved : goal.loop-key-preserved
loop-key-preserved g c =
    let steps = c.in_ok-add_groups.ensures in
    let key = c.loop-key.key in
    record {
      each = λ s at. elim (steps.each s at) [
        | inl before ↦ c.loop-key.invariant.each s before
        | inr here ↦ here
      ];
      all = λ s within gives. elim (cases_lt s.key key) [
        | inl less ↦ steps.kept s (c.loop-key.invariant.all s less gives)
        | inr more ↦
            let is_key : s.key ≡ key = omega (arith, more, within) in
            steps.all s is_key gives
      ];
    }

pub returns-clause-all : goal.returns-clause-all
returns-clause-all g c s gives =
    let content = g.T.Rows.content c.args.tables.now in
    let within : s.key < length content.keys = slice_get_within content.keys s.key gives.key gives.has_key in
    let below : s.key < c.loop-key.key = search rules in
    c.loop-key.invariant.all s below gives

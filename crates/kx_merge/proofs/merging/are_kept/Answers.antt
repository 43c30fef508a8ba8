use Rattle.std.proofs.Common.{◌≡◌, All, Some, true, ap, rules, sym, subst, ◌∙◌}
use Rattle.std.proofs.lemmas.List.{take_all}
use Rattle.std.proofs.lemmas.List.Elements.{All-more}
use Rattle.kx_merge.specs.Moved.{moved_key}
use Rattle.kx_merge.proofs.merging.are_kept.Goals as goal

pub keys-preserved : goal.keys-preserved
keys-preserved g c =
    let xs = c.args.keys.now in
    let key = c.key-item.result in
    let to = c.in-Some.to in
    let stays = λ (k : g.row.R-Key.Denot). moved_key g.R.Fields.moves c.args.group k ≡ Some k in
    let equal : g.R.Key.PartialEq.eq to key ≡ true = search rules in
    let kept : stays key = sym c.key_in.ensures ∙ c.in-Some.is ∙ ap Some (g.met.R.Fields.same to key equal) in
    All-more stays xs c.keys.key-index key c.keys-test.true c.keys.invariant (subst stays c.key-item.is kept)

pub returns : goal.returns
returns g c = λ yes. subst (All (λ (k : g.row.R-Key.Denot). moved_key g.R.Fields.moves c.args.group k ≡ Some k)) (take_all c.keys.key-index c.args.keys.now c.keys-test.false) c.keys.invariant

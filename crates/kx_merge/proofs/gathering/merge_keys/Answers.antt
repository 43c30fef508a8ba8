use Rattle.std.proofs.Common.{◌≡◌, [], get_or, None, sym, subst}
use Rattle.std.proofs.lemmas.Result.{IfOk-weaker}
use Rattle.std.proofs.lemmas.List.{append-nil}
use Rattle.indexmap.specs.IndexMap.{get, keys}
use Rattle.kx_include.specs.Shared.{body_at, links_body}
use Rattle.kx_include.specs.declared.expansion.Link.{Link}
use Rattle.kx_tree.specs.declared.tree.Mode.TheVariants.{Augment}
use Rattle.kx_merge.specs.Bodies.{gathered, offers_of}
use Rattle.kx_merge.specs.Joins.{linked, map_of}
use Rattle.kx_merge.specs.Records.{Shows}
use Rattle.kx_merge.specs.Renewals.{Picks, TakesUp}
use Rattle.kx_merge.proofs.Behind.{empty, only}
use Rattle.kx_merge.proofs.Covering.{picks_none}
use Rattle.kx_merge.proofs.OnePart.{single_part}
use Rattle.kx_merge.proofs.gathering.merge_keys.Goals as goal

pub returns-then-is_empty-clause-again : goal.returns-then-is_empty-clause-again
returns-then-is_empty-clause-again g c = λ yes rules bodies are.
    let eq = g.R.Key.PartialEq.eq in
    let now = c.args.records.now in
    let all = gathered eq Augment (offers_of eq rules g.R.Fields.moves (links_body bodies c.args.links.now)) in
    let none : c.args.renewed.now ≡ [] = empty c.args.renewed.now c.if-is_empty.ensures in
    record {
      picked = [];
      picks = subst (λ ks. Picks eq ks all []) (sym none) (picks_none eq g.met.R.Key.Eq.laws all);
      shows = λ os before. subst (Shows g.R.Fields.form eq (keys now) (get eq now)) (sym (append-nil os)) before;
    }

pub returns-in-len1-clause-again : goal.returns-in-len1-clause-again
returns-in-len1-clause-again g c = IfOk-weaker c.merge_link_keys.result _ _ (λ again taken yes rules bodies are.
    let form = g.R.Fields.form in
    let eq = g.R.Key.PartialEq.eq in
    let moves = g.R.Fields.moves in
    let none : Link = record { mode = Augment; group = None; map = 0 } in
    let xs = c.args.links.now in
    let x = get_or xs 0 none in
    let old = c.args.records.now in
    let new = c.merge_link_keys.new.records in
    let inner = offers_of eq rules moves (body_at bodies x.map) in
    let single = sym (single_part eq g.met.R.Key.Eq.laws g.met.R.Fields.same moves g.met.R.Fields.apart inner x.group x.mode Augment) in
    subst (λ ls. TakesUp form eq c.args.renewed.now (keys old) (get eq old) (keys new) (get eq new) (gathered eq Augment (offers_of eq rules moves (links_body bodies ls))))
    (sym (only xs none c.in-len1.len_at_least c.in-len1.len_below))
    (subst (TakesUp form eq c.args.renewed.now (keys old) (get eq old) (keys new) (get eq new)) single
    (subst (λ (y : Link). TakesUp form eq c.args.renewed.now (keys old) (get eq old) (keys new) (get eq new) (linked eq moves y (offers_of eq rules moves (map_of y bodies)))) c.link_under-link.ensures (taken yes rules bodies are)))) c.merge_link_keys.ensures.again

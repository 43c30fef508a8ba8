use Rattle.std.proofs.Common.{◌≡◌, ◌+◌, [], ◌∷◌, ◌++◌, get_or, None, take, ap, rules as lemmas, subst, sym, ◌∙◌}
use Rattle.std.proofs.lemmas.List.{take_all, take_more}
use Rattle.indexmap.specs.IndexMap.{get, keys}
use Rattle.kx_include.specs.Shared.{body_at, links_body}
use Rattle.kx_include.specs.declared.expansion.Link.{Link}
use Rattle.kx_tree.specs.declared.tree.Mode.TheVariants.{Augment}
use Rattle.kx_merge.specs.Bodies.{gathered, moved, offers_of}
use Rattle.kx_merge.specs.Renewals.{TakesUp}
use Rattle.kx_merge.proofs.Joining.{offers_more, takes_both, takes_nothing}
use Rattle.kx_merge.proofs.gathering.merge_links_keys.Goals as goal

pub links-init : goal.links-init
links-init g c = λ rules bodies are.
    let now = c.args.records.now in
    takes_nothing g.R.Key.PartialEq.eq g.met.R.Key.Eq.laws g.R.Fields.form c.args.renewed.now (keys now) (get g.R.Key.PartialEq.eq now)

pub links-preserved : goal.links-preserved
links-preserved g c = λ rules bodies are.
    let form = g.R.Fields.form in
    let eq = g.R.Key.PartialEq.eq in
    let laws = g.met.R.Key.Eq.laws in
    let moves = g.R.Fields.moves in
    let renewed = c.args.renewed.now in
    let xs = c.args.links.now in
    let index = c.links.link-index in
    let none : Link = record { mode = Augment; group = None; map = 0 } in
    let link = get_or xs index none in
    let old = c.args.records.now in
    let then = c.links.records in
    let new = c.merge_link_keys.new.records in
    let more : take (index + 1) xs ≡ take index xs ++ link ∷ [] = take_more xs index none c.links-test.true in
    let before = offers_of eq rules moves (links_body bodies (take index xs)) in
    let added = moved moves link.group (gathered eq link.mode (offers_of eq rules moves (body_at bodies link.map))) in
    subst (TakesUp form eq renewed (keys old) (get eq old) (keys new) (get eq new)) (sym (ap (λ ls. offers_of eq rules moves (links_body bodies ls)) more ∙ offers_more eq rules moves bodies (take index xs) link))
    (takes_both eq laws form renewed (keys old) (get eq old) (keys then) (keys new) (get eq then) (get eq new) before added (c.links.invariant rules bodies are) (c.in_ok-merge_link_keys.ensures.again (search lemmas) rules bodies are))

pub returns-clause-again : goal.returns-clause-again
returns-clause-again g c = λ yes rules bodies are.
    let form = g.R.Fields.form in
    let eq = g.R.Key.PartialEq.eq in
    let moves = g.R.Fields.moves in
    let old = c.args.records.now in
    let now = c.links.records in
    subst (λ ls. TakesUp form eq c.args.renewed.now (keys old) (get eq old) (keys now) (get eq now) (offers_of eq rules moves (links_body bodies ls))) (take_all c.links.link-index c.args.links.now c.links-test.false) (c.links.invariant rules bodies are)

use Rattle.std.proofs.Common.{◌≡◌, ◌+◌, [], ◌∷◌, ◌++◌, map, take, sym, ap, subst, ◌∙◌}
use Rattle.std.proofs.lemmas.List.{append-nil, append_assoc, take_all, take_more}
use Rattle.std.specs.Map.{keys_of}
use Rattle.indexmap.specs.IndexMap.{get, keys}
use Rattle.kx_merge.specs.Bodies.{gather, moved}
use Rattle.kx_merge.specs.Records.{Shows}
use Rattle.kx_merge.proofs.Movings.{AllGood, last_good, shown_good, map-more, moved-append, moved-none}
use Rattle.kx_merge.proofs.merging.add_included.Goals as goal

pub records-init : goal.records-init
records-init g c = (c.as_slice-entry-items.ensures.value, λ inner good os shows. subst (Shows g.R.Fields.form g.R.Key.PartialEq.eq (keys c.make_room.new.self) (get g.R.Key.PartialEq.eq c.make_room.new.self)) (sym (append-nil os) ∙ ap (λ added. os ++ added) (sym (moved-none g.R.Fields.moves c.args.link.group))) shows)

pub records-preserved : goal.records-preserved
records-preserved g c =
    let form = g.R.Fields.form in
    let eq = g.R.Key.PartialEq.eq in
    let moves = g.R.Fields.moves in
    let mode = c.args.link.mode in
    let group = c.args.link.group in
    let y = c.records.invariant in
    let items = c.as_slice-entry-items.result.now in
    let index = c.records.entry-index in
    let one = c.entry-item.result in
    let new = c.add_found.new.records in
    let more : take (index + 1) items ≡ take index items ++ one ∷ [] = take_more items index one c.records-test.true ∙ ap (λ e. take index items ++ e ∷ []) (sym c.entry-item.is) in (
      y.0,
      λ inner good os shows.
          let r = last_good form eq inner (take index items) one (subst (AllGood form eq inner) more good) in
          let before = map (gather eq mode inner) (keys_of (take index items)) in
          let o = gather eq mode inner one.0 in
          subst (λ es. Shows form eq (keys new) (get eq new) (os ++ moved moves group (map (gather eq mode inner) (keys_of es)))) (sym more)
          (subst (λ os. Shows form eq (keys new) (get eq new) os) (append_assoc os (moved moves group before) (moved moves group (o ∷ [])) ∙ ap (λ added. os ++ added) (sym (moved-append moves group before (o ∷ [])) ∙ ap (moved moves group) (sym (map-more form eq inner mode (take index items) one))))
          (c.in_ok-add_found.ensures.shows inner r.1 (os ++ moved moves group before) (y.1 inner r.0 os shows))),
    )

pub returns-clause-shows : goal.returns-clause-shows
returns-clause-shows g c = λ inner shown os shows.
    let form = g.R.Fields.form in
    let eq = g.R.Key.PartialEq.eq in
    let mode = c.args.link.mode in
    let now = c.records.records in
    let y = c.records.invariant in
    let room = subst (λ rs. Shows form eq (keys rs) (get eq rs) os) (sym c.in_ok-make_room.ensures.same) shows in
    let e = take_all c.records.entry-index c.as_slice-entry-items.result.now c.records-test.false ∙ y.0 in
    let good = shown_good form eq inner g.met.R.Key.Eq.laws c.args.given.now c.as_slice-entry-items.ensures.unique shown in
    subst (λ ns. Shows form eq (keys now) (get eq now) (os ++ moved g.R.Fields.moves c.args.link.group (map (gather eq mode inner) ns))) (ap keys_of e ∙ shown.names_are) (y.1 inner (subst (AllGood form eq inner) (sym e) good) os room)

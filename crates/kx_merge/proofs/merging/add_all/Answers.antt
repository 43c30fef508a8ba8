use Rattle.std.proofs.Common.{◌++◌, ◌∷◌, [], sym, subst}
use Rattle.std.proofs.lemmas.List.{append-nil, append_assoc}
use Rattle.indexmap.specs.IndexMap.{get, keys}
use Rattle.kx_merge.specs.Records.{Shows}
use Rattle.kx_merge.proofs.Movings.{last_offered, none_offered}
use Rattle.kx_merge.proofs.merging.add_all.Goals as goal

pub records-init : goal.records-init
records-init g c = λ front are os shows.
    let form = g.R.Fields.form in
    let eq = g.R.Key.PartialEq.eq in
    let e = none_offered c.args.mode form front are in
    subst (λ f. Shows form eq (keys c.args.records.now) (get eq c.args.records.now) (os ++ f)) (sym e) (subst (Shows form eq (keys c.args.records.now) (get eq c.args.records.now)) (sym (append-nil os)) shows)

pub records-preserved : goal.records-preserved
records-preserved g c = λ front are os shows.
    let form = g.R.Fields.form in
    let eq = g.R.Key.PartialEq.eq in
    let r = last_offered c.args.mode form c.records.yielded (c.in-Some.key, c.in-Some.one) front are in
    let new = c.add_one.new.records in
    subst (λ f. Shows form eq (keys new) (get eq new) (os ++ f)) (sym r.2) (subst (Shows form eq (keys new) (get eq new)) (append_assoc os r.0 (r.1 ∷ [])) (c.in_ok-add_one.ensures.shows r.1 r.4 (os ++ r.0) (c.records.invariant r.0 r.3 os shows)))

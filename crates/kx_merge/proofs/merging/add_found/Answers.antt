use Rattle.std.proofs.Common.{OnOk, ◌++◌, sym, ap, ◌∙◌, subst}
use Rattle.std.proofs.lemmas.List.{append-nil}
use Rattle.indexmap.specs.IndexMap.{get, keys}
use Rattle.kx_merge.specs.Records.{Shows}
use Rattle.kx_merge.proofs.Movings.{nothing_offered, offered_moved}
use Rattle.kx_merge.proofs.merging.add_found.Goals as goal

pub returns-in-None-clause-shows : goal.returns-in-None-clause-shows
returns-in-None-clause-shows g c = λ inner good os shows.
    let form = g.R.Fields.form in
    let eq = g.R.Key.PartialEq.eq in
    let none = nothing_offered form eq g.R.Fields.moves inner c.args.link.mode c.args.key.now c.args.one.now good c.args.link.group (sym c.key_in.ensures ∙ c.in-None.is) in
    subst (Shows form eq (keys c.args.records.now) (get eq c.args.records.now)) (sym (append-nil os) ∙ ap (λ added. os ++ added) (sym none)) shows

pub returns-in-Some-clause-shows : goal.returns-in-Some-clause-shows
returns-in-Some-clause-shows g c = λ inner good os shows.
    let form = g.R.Fields.form in
    let eq = g.R.Key.PartialEq.eq in
    let new = c.add_moved.new.records in
    let one = offered_moved form eq g.R.Fields.moves inner c.args.link.mode c.args.key.now c.args.one.now good c.args.link.group c.in-Some.to (sym c.key_in.ensures ∙ c.in-Some.is) in
    subst (λ added. OnOk c.add_moved.result (Shows form eq (keys new) (get eq new) (os ++ added))) (sym one.1) (c.add_moved.ensures.shows one.0 one.2 os shows)

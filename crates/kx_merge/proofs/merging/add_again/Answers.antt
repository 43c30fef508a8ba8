use Rattle.std.proofs.Common.{◌≡◌, ◌+◌, List, [], ◌∷◌, ◌++◌, map, take, is_some, false, true, sym, ap, subst, ◌∙◌}
use Rattle.std.proofs.lemmas.List.{take_all, take_more}
use Rattle.std.specs.HashMap.{HashMap}
use Rattle.std.specs.List.{list_any}
use Rattle.std.proofs.Common.{ℕ}
use Rattle.indexmap.specs.IndexMap.{get, keys}
use Rattle.kx_merge.specs.Bodies.{gather, moved}
use Rattle.kx_merge.specs.Joins.{linked_to}
use Rattle.kx_merge.specs.Records.{Shows}
use Rattle.kx_merge.specs.Renewals.{held}
use Rattle.kx_merge.proofs.Picking.{found_good, given_more, held_more, held_past}
use Rattle.kx_merge.proofs.Steps.{there}
use Rattle.kx_merge.proofs.merging.add_again.Goals as goal
use Rattle.kx_merge.proofs.merging.add_again.Goals.{in-Some+in_ok-add_found, in_default}

pub keys-preserved : goal.keys-preserved
keys-preserved g c = λ inner shown os shows.
    let form = g.R.Fields.form in
    let eq = g.R.Key.PartialEq.eq in
    let moves = g.R.Fields.moves in
    let mode = c.args.link.mode in
    let group = c.args.link.group in
    let given = c.args.given.now in
    let ns = keys given in
    let xs = c.args.renewed.now in
    let index = c.keys.key-index in
    let key = c.key-item.result in
    let new = c.match-get in
    let more : take (index + 1) xs ≡ take index xs ++ key ∷ [] = take_more xs index key c.keys-test.true ∙ ap (λ e. take index xs ++ e ∷ []) (sym c.key-item.is) in
    let state : HashMap g.row.R-Key.Denot g.row.R.Denot ℕ → List g.row.R-Key.Denot → Type 0 = λ records ks. Shows form eq (keys records) (get eq records) (os ++ moved moves group (map (gather eq mode inner) ks)) in
    let before = held eq ns (take index xs) in
    let old = c.keys.invariant inner shown os shows in
    subst (λ ks. state new.records (held eq ns ks)) (sym more)
    (elim new.branch [
      | in-Some+in_ok-add_found w ↦
          let at = w.in-Some.ensures.value in
          let named : list_any (eq key) ns ≡ true = sym (there (eq key) given.entries) ∙ sym (ap is_some at) in
          let records = w.add_found.new.records in
          subst (λ m. state m (held eq ns (take index xs ++ key ∷ []))) (sym w.records-is)
          (subst (state records) (sym (held_more eq ns key (take index xs) named))
          (subst (Shows form eq (keys records) (get eq records)) (given_more eq moves mode inner group os before key)
          (w.in_ok-add_found.ensures.shows inner (found_good form eq ns (get eq given) inner key w.in-Some.one.now shown (sym at)) (os ++ moved moves group (map (gather eq mode inner) before)) old)))
      | in_default w ↦
          let out : list_any (eq key) ns ≡ false = sym (there (eq key) given.entries) ∙ sym (ap is_some w.in_default.ensures.value) in
          subst (λ m. state m (held eq ns (take index xs ++ key ∷ []))) (sym w.records-is)
          (subst (state c.keys.records) (sym (held_past eq ns key (take index xs) out)) old)
    ])

pub returns-clause-shows : goal.returns-clause-shows
returns-clause-shows g c = λ inner shown os shows.
    let eq = g.R.Key.PartialEq.eq in
    let now = c.keys.records in
    subst (λ ks. Shows g.R.Fields.form eq (keys now) (get eq now) (os ++ linked_to eq g.R.Fields.moves c.args.link (held eq (keys c.args.given.now) ks) inner)) (take_all c.keys.key-index c.args.renewed.now c.keys-test.false) (c.keys.invariant inner shown os shows)

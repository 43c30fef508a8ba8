use Rattle.std.proofs.Common.{OnOk, List, ◌++◌, map, sym, ap, subst, ◌∙◌}
use Rattle.std.specs.Map.{keys_of}
use Rattle.indexmap.specs.IndexMap.{get, keys}
use Rattle.kx_merge.specs.Bodies.{gather}
use Rattle.kx_merge.specs.Records.{AreOffered, Shows}
use Rattle.kx_merge.proofs.Movings.{all_offered, shown_good}
use Rattle.kx_merge.proofs.merging.add_joined.Goals as goal

pub returns : goal.returns
returns g c =
    let form = g.R.Fields.form in
    let eq = g.R.Key.PartialEq.eq in
    let mode = c.args.mode in
    let given = c.args.given in
    let made = c.into_entries.result.items in
    let new = c.add_all.new.records in
    let is = c.into_entries.ensures.value in
    record {
      shows = λ inner shown os shows.
          let offers = λ (es : List (g.row.R-Key.Denot × g.row.R.Denot)). map (gather eq mode inner) (keys_of es) in
          let are = all_offered form eq inner mode given.entries (shown_good form eq inner g.met.R.Key.Eq.laws given c.into_entries.ensures.unique shown) in
          subst (λ added. OnOk c.add_all.result (Shows form eq (keys new) (get eq new) (os ++ added))) (ap offers is ∙ ap (map (gather eq mode inner)) shown.names_are)
          (c.add_all.ensures.shows (offers made) (subst (λ es. AreOffered mode form es (offers es)) (sym is) are) os shows);
      err = c.add_all.ensures.err;
    }

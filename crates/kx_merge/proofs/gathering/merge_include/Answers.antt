use Rattle.std.proofs.Common.{get_or, None, sym, subst}
use Rattle.std.proofs.lemmas.List.{append-nil}
use Rattle.indexmap.specs.IndexMap.{get, keys}
use Rattle.kx_include.specs.Shared.{body_at, links_body}
use Rattle.kx_include.specs.declared.expansion.Link.{Link}
use Rattle.kx_tree.specs.declared.tree.Mode.TheVariants.{Augment}
use Rattle.kx_merge.specs.Bodies.{faults_of, gathered, offers_of}
use Rattle.kx_merge.specs.Gatherings.{Adds}
use Rattle.kx_merge.specs.Joins.{linked, map_of}
use Rattle.kx_merge.proofs.Behind.{adds_same, only}
use Rattle.kx_merge.proofs.OnePart.{single_part}
use Rattle.kx_merge.proofs.gathering.merge_include.Goals as goal

pub returns-in-len1 : goal.returns-in-len1
returns-in-len1 g c = λ rules bodies are.
    let eq = g.R.Key.PartialEq.eq in
    let moves = g.R.Fields.moves in
    let none : Link = record { mode = Augment; group = None; map = 0 } in
    let xs = c.args.included.links.now in
    let x = get_or xs 0 none in
    let os = offers_of eq rules moves (body_at bodies x.map) in
    let old = c.args.merged.now.records in
    let new = c.merge_link.new.merged.records in
    subst (λ ls. Adds g.R.Fields.form eq (keys old) (get eq old) c.merge_link.result (keys new) (get eq new) (gathered eq c.args.included.mode (offers_of eq rules moves (links_body bodies ls))) (faults_of eq rules moves (links_body bodies ls)))
    (sym (only xs none c.in-len1.len_at_least c.in-len1.len_below))
    (adds_same (sym (single_part eq g.met.R.Key.Eq.laws g.met.R.Fields.same moves g.met.R.Fields.apart os x.group x.mode c.args.included.mode)) (sym (append-nil (faults_of eq rules moves (body_at bodies x.map)))) (subst (λ (y : Link). Adds g.R.Fields.form eq (keys old) (get eq old) c.merge_link.result (keys new) (get eq new) (linked eq moves y (offers_of eq rules moves (map_of y bodies))) (faults_of eq rules moves (map_of y bodies))) c.link_under.ensures (c.merge_link.ensures rules bodies are)))

use Rattle.std.proofs.Common.{◌≡◌, ◌++◌, List, ap, rules as lemmas, sym, subst, ◌∙◌}
use Rattle.indexmap.specs.IndexMap.{get, keys}
use Rattle.kx_include.specs.Shared.{links_body}
use Rattle.kx_include.specs.declared.expansion.Link.{Link}
use Rattle.kx_tree.specs.declared.tree.Mode.{Mode}
use Rattle.kx_merge.specs.Bodies.{faults_of, gathered, offers_of}
use Rattle.kx_merge.specs.Records.{Shows}
use Rattle.kx_merge.proofs.Again.{gathered_again}
use Rattle.kx_merge.proofs.gathering.merge_after.Goals as goal

pub returns-then-are_same_links : goal.returns-then-are_same_links
returns-then-are_same_links g c = λ rules bodies are clean.
    let form = g.R.Fields.form in
    let eq = g.R.Key.PartialEq.eq in
    let moves = g.R.Fields.moves in
    let now = c.args.merged.now.records in
    let last = c.args.last in
    let included = c.args.included in
    let mode : included.mode ≡ last.mode = search lemmas in
    let links : included.links.now ≡ last.links.now = c.if-are_same_links.ensures (search lemmas) in
    let offered = λ (m : Mode) (ls : List Link). gathered eq m (offers_of eq rules moves (links_body bodies ls)) in
    let same = ap (λ m. offered m last.links.now) (sym mode) ∙ ap (offered included.mode) (sym links) in
    record {
      shows = λ os shows. subst (λ added. Shows form eq (keys now) (get eq now) ((os ++ offered last.mode last.links.now) ++ added)) same (gathered_again form eq g.met.R.Key.Eq.laws g.met.R.Fields.same (keys now) (get eq now) last.mode os (offers_of eq rules moves (links_body bodies last.links.now)) shows);
      faultless = ap (λ ls. faults_of eq rules moves (links_body bodies ls)) links ∙ clean;
      fault = tt;
    }

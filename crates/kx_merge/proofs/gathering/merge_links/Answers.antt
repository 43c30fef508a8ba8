use Rattle.std.proofs.Common.{◌+◌, cond, get_or, drop, None, subst, sym}
use Rattle.indexmap.specs.IndexMap.{get, keys}
use Rattle.kx_include.specs.Shared.{links_body}
use Rattle.kx_include.specs.declared.expansion.Link.{Link}
use Rattle.kx_tree.specs.declared.tree.Mode.TheVariants.{Augment}
use Rattle.kx_merge.specs.Bodies.{faults}
use Rattle.kx_merge.specs.Offers.{is_replace}
use Rattle.kx_merge.proofs.Going.{read_again}
use Rattle.kx_merge.proofs.Behind.{adds_passed, left_fault, link_blamed_at}
use Rattle.kx_merge.proofs.Parting.{Parted, parted_first, parted_on, parted_past}
use Rattle.kx_merge.proofs.gathering.merge_links.Goals as goal
use Rattle.kx_merge.proofs.gathering.merge_links.Goals.{then-stands_since, else-stands_since+in_ok-merge_link+in_ok-add}

pub links-init : goal.links-init
links-init g c = λ rules bodies are. parted_first g.R.Fields.form g.R.Key.PartialEq.eq g.met.R.Key.Eq.laws rules g.R.Fields.moves bodies c.args.links.now (keys c.args.merged.now.records) (get g.R.Key.PartialEq.eq c.args.merged.now.records)

pub returns-in_err-merge_link : goal.returns-in_err-merge_link
returns-in_err-merge_link g c = λ rules bodies are.
    let xs = c.args.links.now in
    let i = c.links.place in
    let none : Link = record { mode = Augment; group = None; map = 0 } in
    let x = get_or xs i none in
    adds_passed c.from_residual.result c.from_residual.ensures.1
    (left_fault (faults g.R.Key.PartialEq.eq rules g.R.Fields.moves rules.start (links_body bodies (drop (i + 1) xs))) (c.links.invariant rules bodies are).left (link_blamed_at g.R.Key.PartialEq.eq rules g.R.Fields.moves bodies xs i x c.links-test.true (read_again xs i none c.links-test.true)) (c.in_err-merge_link.ensures rules bodies are))

pub links-preserved : goal.links-preserved
links-preserved g c = λ rules bodies are.
    let form = g.R.Fields.form in
    let eq = g.R.Key.PartialEq.eq in
    let laws = g.met.R.Key.Eq.laws in
    let moves = g.R.Fields.moves in
    let xs = c.args.links.now in
    let i = c.links.place in
    let none : Link = record { mode = Augment; group = None; map = 0 } in
    let x = get_or xs i none in
    let within = c.links-test.true in
    let is = read_again xs i none within in
    let p = c.links.invariant rules bodies are in
    let old = c.args.merged.now.records in
    let new = c.if-stands_since in
    let since = cond (is_replace x.mode) (i + 1) c.links.since in
    subst (λ s. Parted form eq laws rules moves bodies xs (keys old) (get eq old) s (i + 1) (keys new.merged.records) (get eq new.merged.records)) (sym c.since_after-since.ensures)
    (elim new.branch [
      | then-stands_since w ↦
          subst (λ m. Parted form eq laws rules moves bodies xs (keys old) (get eq old) since (i + 1) (keys m.records) (get eq m.records)) (sym w.merged-is)
          (parted_past form eq laws rules moves bodies xs x p within is (c.stands_since.ensures w.if-stands_since.true))
      | else-stands_since+in_ok-merge_link+in_ok-add w ↦
          subst (λ m. Parted form eq laws rules moves bodies xs (keys old) (get eq old) since (i + 1) (keys m.records) (get eq m.records)) (sym w.merged-is)
          (parted_on form eq laws rules moves bodies xs x p within is (w.in_ok-merge_link.ensures rules bodies are))
    ])

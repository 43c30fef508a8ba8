use Rattle.std.proofs.Common.{cond, Some, is_some, sym, ap, ◌∙◌}
use Rattle.std.specs.Map.{keys_of}
use Rattle.indexmap.specs.IndexMap.{get, keys}
use Rattle.kx_merge.specs.Moved.{moved_value, moved_width}
use Rattle.kx_merge.specs.Offers.{merged_value, merged_width, with_name}
use Rattle.kx_merge.specs.Records.{cell_in, width_in}
use Rattle.kx_merge.proofs.Steps.{shows_made, keys-put, keys-there, on_both}
use Rattle.kx_merge.proofs.merging.add_moved.Goals as goal

pub returns-in-Some-clause-shows : goal.returns-in-Some-clause-shows
returns-in-Some-clause-shows g c = λ o is os shows.
    let eq = g.R.Key.PartialEq.eq in
    let h = c.get_mut.follows.holds c.merge_moved.new.self in
    let new = c.get_mut.follows.lender c.merge_moved.new.self in
    let at = c.in-Some.ensures.value in
    let one = c.args.one.now in
    on_both c.merge_moved.result c.merge_moved.ensures.cells c.merge_moved.ensures.widths (λ cells widths.
    shows_made g.R.Fields.form eq g.met.R.Key.Eq.laws g.met.R.Fields.same (keys c.args.records.now) (keys new) (get eq c.args.records.now) (get eq new) os c.args.link.mode c.args.key c.merge_moved.new.self o shows is.mode_is is.name_is
    (h.0 ∙ sym (keys-there eq c.args.records.now.entries c.args.key c.in-Some.old.now at))
    (h.1 (sym (ap is_some at)))
    (λ cell. cells cell ∙ ap (λ found. merged_value c.args.link.mode (cell_in g.R.Fields.form found cell) (moved_value g.R.Fields.moves c.args.link.group (g.R.Fields.form.cell one) cell)) at ∙ ap (merged_value c.args.link.mode (cell_in g.R.Fields.form (get eq c.args.records.now c.args.key) cell)) (sym (is.value_is cell)))
    (λ group. widths group ∙ ap (λ found. merged_width c.args.link.mode (width_in g.R.Fields.form found group) (moved_width g.R.Fields.moves c.args.link.group (g.R.Fields.form.width one) group)) at ∙ ap (merged_width c.args.link.mode (width_in g.R.Fields.form (get eq c.args.records.now c.args.key) group)) (sym (is.width_is group))))

pub returns-clause-shows : goal.returns-clause-shows
returns-clause-shows g c = λ o is os shows.
    let eq = g.R.Key.PartialEq.eq in
    let before = c.get_mut.follows.lender-at-none in
    let same = c.get_mut.follows.holds-at-none in
    let at = sym c.in_default.ensures.value in
    let made = c.merge_moved-2.new.self in
    let one = c.args.one.now in
    let e = c.in_ok-merge_moved.ensures in
    shows_made g.R.Fields.form eq g.met.R.Key.Eq.laws g.met.R.Fields.same (keys c.args.records.now) (keys c.push.new.self) (get eq c.args.records.now) (get eq c.push.new.self) os c.args.link.mode c.args.key made o shows is.mode_is is.name_is
    (ap keys_of c.in_ok-push.ensures.entries ∙ keys-put eq before.entries c.args.key made ∙ ap (λ m. with_name eq (keys m) c.args.key) same)
    (λ q. c.in_ok-push.ensures.updates q ∙ ap (λ m. cond (eq c.args.key q) (Some made) (get eq m q)) same)
    (λ cell. e.cells cell ∙ ap (λ v. merged_value c.args.link.mode v (moved_value g.R.Fields.moves c.args.link.group (g.R.Fields.form.cell one) cell)) (c.none-made.ensures.cells cell ∙ sym (ap (λ found. cell_in g.R.Fields.form found cell) at)) ∙ ap (merged_value c.args.link.mode (cell_in g.R.Fields.form (get eq c.args.records.now c.args.key) cell)) (sym (is.value_is cell)))
    (λ group. e.widths group ∙ ap (λ v. merged_width c.args.link.mode v (moved_width g.R.Fields.moves c.args.link.group (g.R.Fields.form.width one) group)) (c.none-made.ensures.widths group ∙ sym (ap (λ found. width_in g.R.Fields.form found group) at)) ∙ ap (merged_width c.args.link.mode (width_in g.R.Fields.form (get eq c.args.records.now c.args.key) group)) (sym (is.width_is group)))

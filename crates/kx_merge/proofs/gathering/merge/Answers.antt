use Rattle.std.proofs.Common.{[], ◌+◌, ◌<◌, ◌≤◌, ◌≡◌, length, get_or, drop, refl, sym, subst}
use Rattle.indexmap.specs.IndexMap.{get, keys}
use Rattle.kx_include.specs.Shared.{bodies_behind, expanded_body, shared_sections}
use Rattle.kx_merge.specs.Bodies.{faults, faults_of}
use Rattle.kx_merge.specs.Gatherings.{AreGathered}
use Rattle.kx_merge.proofs.Behind.{left_all, left_fault, left_over, left_shown, left_step, section_at, section_blamed_at, shows_none}
use Rattle.kx_merge.proofs.Going.{reported_or_out}
use Rattle.kx_merge.proofs.gathering.merge.Goals as goal

pub sections-init : goal.sections-init
sections-init g c =
    let rules = g.R.Fields.rules c.args.context.now in
    left_all g.R.Fields.form g.R.Key.PartialEq.eq rules g.R.Fields.moves (keys c.new_walk-walk.result.merged.records) (get g.R.Key.PartialEq.eq c.new_walk-walk.result.merged.records) rules.start (expanded_body c.args.expansion.now)

pub returns-in_err-merge_map-clause-faults : goal.returns-in_err-merge_map-clause-faults
returns-in_err-merge_map-clause-faults g c =
    let eq = g.R.Key.PartialEq.eq in
    let rules = g.R.Fields.rules c.args.context.now in
    let moves = g.R.Fields.moves in
    let bodies = bodies_behind [] c.args.expansion.now.maps.items in
    let xs = c.args.expansion.now.sections.items in
    let i = c.sections.section-index in
    let x = c.section-item.result in
    let value = c.deref-section-items.ensures.value in
    let within = subst (λ ys. i < length ys) value c.sections-test.true in
    let is = subst (λ ys. x ≡ get_or ys i x) value c.section-item.is in
    let are = subst (λ rs. AreGathered g.R.Fields.form eq rules moves rs bodies) (sym c.as_slice-in-sections.ensures.value) (subst (λ ms. AreGathered g.R.Fields.form eq rules moves c.in_ok-done.done.items (bodies_behind [] ms)) c.as_slice.ensures.value c.in_ok-done.ensures.gathered) in
    reported_or_out c.from_residual-in_err-merge_map.result (faults_of eq rules moves (expanded_body c.args.expansion.now)) c.in_err-merge_map.field-0.0 c.from_residual-in_err-merge_map.ensures.1
    (left_fault (faults eq rules moves rules.start (shared_sections bodies (drop (i + 1) xs))) c.sections.invariant (section_blamed_at eq rules moves bodies xs i x within is) (c.in_err-merge_map.ensures bodies are))

pub sections-preserved : goal.sections-preserved
sections-preserved g c =
    let eq = g.R.Key.PartialEq.eq in
    let rules = g.R.Fields.rules c.args.context.now in
    let moves = g.R.Fields.moves in
    let bodies = bodies_behind [] c.args.expansion.now.maps.items in
    let xs = c.args.expansion.now.sections.items in
    let i = c.sections.section-index in
    let x = c.section-item.result in
    let value = c.deref-section-items.ensures.value in
    let within = subst (λ ys. i < length ys) value c.sections-test.true in
    let is = subst (λ ys. x ≡ get_or ys i x) value c.section-item.is in
    let are = subst (λ rs. AreGathered g.R.Fields.form eq rules moves rs bodies) (sym c.as_slice-in-sections.ensures.value) (subst (λ ms. AreGathered g.R.Fields.form eq rules moves c.in_ok-done.done.items (bodies_behind [] ms)) c.as_slice.ensures.value c.in_ok-done.ensures.gathered) in
    left_step rules.start (shared_sections bodies (drop (i + 1) xs)) c.sections.invariant (section_at eq rules moves bodies xs i x within is) (section_blamed_at eq rules moves bodies xs i x within is) (c.in_ok-merge_map.ensures bodies are)

pub returns-clause-shows : goal.returns-clause-shows
returns-clause-shows g c =
    let eq = g.R.Key.PartialEq.eq in
    let over = subst (λ ys. length ys ≤ c.sections.section-index) c.deref-section-items.ensures.value c.sections-test.false in
    left_shown (left_over (bodies_behind [] c.args.expansion.now.maps.items) c.sections.section-index c.args.expansion.now.sections.items over c.sections.invariant) []
    (shows_none g.R.Fields.form eq c.new_walk-walk.result.merged.records [] c.new_walk-walk.ensures refl)

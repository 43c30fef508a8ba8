use Rattle.std.proofs.Common.{ℕ, List, [], ◌∷◌, ◌++◌, IfSome, arith, ◌+◌, ◌<◌, ◌≤◌, ◌≡◌, ◌∙◌, cond, length, get_or, ap, refl, rules as lemmas, sym, subst}
use Rattle.indexmap.specs.IndexMap.{get, keys}
use Rattle.std.specs.HashMap.{HashMap}
use Rattle.kx_include.specs.Shared.{links_body}
use Rattle.kx_include.specs.declared.expansion.Link.{Link}
use Rattle.kx_tree.specs.declared.tree.Mode.{Mode}
use Rattle.kx_tree.specs.declared.tree.Mode.TheVariants.{Augment}
use Rattle.kx_merge.specs.Gatherings.{StandsBetween, StoodAt, entry_faults, entry_next, entry_offers, included_by, placed_faults, placed_offers}
use Rattle.kx_merge.specs.Joins.{include_of, included_faults, included_offers}
use Rattle.kx_merge.specs.declared.placed.Placed.{Placed}
use Rattle.kx_merge.specs.Bodies.{gathered, offers_of}
use Rattle.kx_merge.specs.Offers.{is_replace}
use Rattle.kx_merge.specs.Renewals.{TakesBack, TakesUp, keys_since}
use Rattle.kx_merge.proofs.Behind.{adds_passed}
use Rattle.kx_merge.proofs.Entries.{adds_behind, covering_by, fault_by, include_back}
use Rattle.kx_merge.proofs.Passing.{Covering, Going, covering_again, covering_first, covering_past, going_clean, going_shown}
use Rattle.kx_merge.proofs.gathering.merge_map.Goals as goal
use Rattle.kx_merge.proofs.gathering.merge_map.Goals.{then-stands_between, else-stands_between+in_ok-merge_again+then-branch, else-stands_between+in_ok-merge_again+else-branch+in-Own+in_ok-defaults-in-Own, else-stands_between+in_ok-merge_again+else-branch+in-Include+in_ok-merge_after-in-Include}

pub entries-init : goal.entries-init
entries-init g c = λ bodies are.
    let form = g.R.Fields.form in
    let eq = g.R.Key.PartialEq.eq in
    let laws = g.met.R.Key.Eq.laws in
    let rules = g.R.Fields.rules c.args.context.now in
    let moves = g.R.Fields.moves in
    let place = c.args.map.now.place in
    let xs = c.args.map.now.entries.items in
    let records = c.args.walk.now.merged.records in
    let new = c.new in
    subst (λ marks. Covering form eq laws rules moves bodies place xs (keys records) (get eq records) (Augment, []) 0 marks new.result.keys.items 0 c.start-defaults.result (keys records) (get eq records)) (sym new.ensures.marks)
    (subst (λ noted. Covering form eq laws rules moves bodies place xs (keys records) (get eq records) (Augment, []) 0 [] noted 0 c.start-defaults.result (keys records) (get eq records)) (sym new.ensures.keys)
    (subst (λ d. Covering form eq laws rules moves bodies place xs (keys records) (get eq records) (Augment, []) 0 [] [] 0 d (keys records) (get eq records)) (sym c.start-defaults.ensures)
    (covering_first form eq laws rules moves bodies place xs (keys records) (get eq records))))

pub returns-in_err-defaults-in-Own : goal.returns-in_err-defaults-in-Own
returns-in_err-defaults-in-Own g c = λ bodies are.
    let form = g.R.Fields.form in
    let eq = g.R.Key.PartialEq.eq in
    let rules = g.R.Fields.rules c.args.context.now in
    let moves = g.R.Fields.moves in
    let place = c.args.map.now.place in
    let xs = c.args.map.now.entries.items in
    let old = c.args.walk.now.merged.records in
    let i = c.entries.place in
    let d = c.entries.defaults in
    let x = c.index-entries-place.result in
    let last = include_of c.entries.last in
    let value = c.as_slice-entries.ensures.value in
    let whole = c.in_ok-merge_again.ensures.whole (search lemmas) in
    let l = subst (λ m. Going form eq rules moves bodies place xs (keys old) (get eq old) last i d (keys m) (get eq m)) (sym whole) (c.entries.invariant bodies are).going in
    let within = subst (λ ys. i < length ys) value c.entries-test.true in
    let is = subst (λ ys. x ≡ get_or ys i x) value c.index-entries-place.is in
    let placed : Placed = record { place = place; stated = c.in-Own.stated } in
    adds_passed c.from_residual-in_err-defaults-in-Own.result c.from_residual-in_err-defaults-in-Own.ensures.1
    (fault_by form eq rules moves bodies place xs last i d x within is (placed_offers rules d placed) (placed_faults rules d placed)
    (ap (entry_offers eq rules moves bodies place d) c.in-Own.is) (ap (entry_faults eq rules moves bodies place d) c.in-Own.is)
    l (adds_behind (included_offers eq rules moves bodies last) c.in_err-defaults-in-Own.ensures.adds))

pub returns-in_err-merge_after-in-Include : goal.returns-in_err-merge_after-in-Include
returns-in_err-merge_after-in-Include g c = λ bodies are.
    let form = g.R.Fields.form in
    let eq = g.R.Key.PartialEq.eq in
    let rules = g.R.Fields.rules c.args.context.now in
    let moves = g.R.Fields.moves in
    let place = c.args.map.now.place in
    let xs = c.args.map.now.entries.items in
    let old = c.args.walk.now.merged.records in
    let i = c.entries.place in
    let d = c.entries.defaults in
    let x = c.index-entries-place.result in
    let last = include_of c.entries.last in
    let included = include_of c.included_by-included.result in
    let by = c.included_by-included.ensures in
    let value = c.as_slice-entries.ensures.value in
    let whole = c.in_ok-merge_again.ensures.whole (search lemmas) in
    let l = subst (λ m. Going form eq rules moves bodies place xs (keys old) (get eq old) last i d (keys m) (get eq m)) (sym whole) (c.entries.invariant bodies are).going in
    let within = subst (λ ys. i < length ys) value c.entries-test.true in
    let is = subst (λ ys. x ≡ get_or ys i x) value c.index-entries-place.is in
    let offered = subst (λ e. entry_offers eq rules moves bodies place d e ≡ included_offers eq rules moves bodies (included_by e)) (sym c.in-Include.is) refl in
    let blamed = subst (λ e. entry_faults eq rules moves bodies place d e ≡ included_faults eq rules moves bodies (included_by e)) (sym c.in-Include.is) refl in
    adds_passed c.from_residual-in_err-merge_after-in-Include.result c.from_residual-in_err-merge_after-in-Include.ensures.1
    (fault_by form eq rules moves bodies place xs last i d x within is (included_offers eq rules moves bodies included) (included_faults eq rules moves bodies included)
    (offered ∙ sym (ap (included_offers eq rules moves bodies) by)) (blamed ∙ sym (ap (included_faults eq rules moves bodies) by))
    l (c.in_err-merge_after-in-Include.ensures rules bodies are l.clean))

pub returns-in_err-merge_again : goal.returns-in_err-merge_again
returns-in_err-merge_again g c = λ bodies are. adds_passed c.from_residual-in_err-merge_again.result c.from_residual-in_err-merge_again.ensures.1 (0, omega arith, sym c.in_err-merge_again.ensures.err)

pub returns-in_err-pass : goal.returns-in_err-pass
returns-in_err-pass g c = λ bodies are. adds_passed c.from_residual-in_err-pass.result c.from_residual-in_err-pass.ensures.1 (0, omega arith, sym c.in_err-pass.ensures.err)

pub entries-preserved : goal.entries-preserved
entries-preserved g c = λ bodies are.
    let form = g.R.Fields.form in
    let eq = g.R.Key.PartialEq.eq in
    let laws = g.met.R.Key.Eq.laws in
    let rules = g.R.Fields.rules c.args.context.now in
    let moves = g.R.Fields.moves in
    let place = c.args.map.now.place in
    let xs = c.args.map.now.entries.items in
    let i = c.entries.place in
    let d = c.entries.defaults in
    let x = c.index-entries-place.result in
    let value = c.as_slice-entries.ensures.value in
    let l = c.entries.invariant bodies are in
    let within = subst (λ ys. i < length ys) value c.entries-test.true in
    let is = subst (λ ys. x ≡ get_or ys i x) value c.index-entries-place.is in
    let last = include_of c.entries.last in
    let included = include_of c.included_by-included.result in
    let by = c.included_by-included.ensures in
    let old = c.args.walk.now.merged.records in
    let then = c.entries.walk.replaced in
    let new = c.if-stands_between in
    let since = cond (is_replace (included_by x).0) (i + 1) c.entries.since in
    let state : Mode × List Link → ℕ → List ℕ → List g.row.R-Key.Denot → g.row.R-Defaults.Denot → HashMap g.row.R-Key.Denot g.row.R.Denot ℕ → Type 0 = λ last s marks noted d records. Covering form eq laws rules moves bodies place xs (keys old) (get eq old) last s marks noted (i + 1) d (keys records) (get eq records) in
    let next : Mode × List Link → List ℕ → List g.row.R-Key.Denot → g.row.R-Defaults.Denot → HashMap g.row.R-Key.Denot g.row.R.Denot ℕ → Type 0 = λ last marks noted d records. state last since (marks ++ length noted ∷ []) noted d records in
    subst (λ s. state (include_of new.last) s c.pass.new.self.marks.items c.pass.new.self.keys.items new.defaults new.walk.merged.records) (sym (c.since_after-since.ensures ∙ ap (λ y. cond (is_replace y.0) (i + 1) c.entries.since) by))
    (subst (λ marks. state (include_of new.last) since marks c.pass.new.self.keys.items new.defaults new.walk.merged.records) (sym c.in_ok-pass.ensures.marks)
    (subst (λ noted. state (include_of new.last) since (new.walk.replaced.marks.items ++ length new.walk.replaced.keys.items ∷ []) noted new.defaults new.walk.merged.records) (sym c.in_ok-pass.ensures.keys)
    (elim new.branch [
      | then-stands_between w ↦
          let stands = subst (λ y. StandsBetween xs i y) by (subst (λ ys. StandsBetween ys i included) value (c.stands_between.ensures w.if-stands_between.true)) in
          subst (λ y. next (include_of y) new.walk.replaced.marks.items new.walk.replaced.keys.items new.defaults new.walk.merged.records) (sym w.last-is)
          (subst (λ v. next last v.replaced.marks.items v.replaced.keys.items new.defaults v.merged.records) (sym w.walk-is)
          (subst (λ e. next last then.marks.items then.keys.items e c.entries.walk.merged.records) (sym w.defaults-is)
          (covering_past form eq laws rules moves bodies place xs g.met.R.Fields.same x l within is stands)))
      | else-stands_between+in_ok-merge_again+then-branch w ↦
          let taken = w.in_ok-merge_again.ensures.again w.if-branch.true in
          let before = taken.0 in
          let mid = w.merge_again.new.walk in
          let stood = subst (λ r. IfSome r (λ n. StoodAt c.as_slice-entries.result.now c.entries.since i n included)) taken.1 c.stood_since-stood.ensures in
          let stands = subst (λ y. StoodAt xs c.entries.since i before y) by (subst (λ ys. StoodAt ys c.entries.since i before included) value stood) in
          let up = subst (λ (y : Mode × List Link). TakesUp form eq (keys_since then.marks.items then.keys.items before) (keys c.entries.walk.merged.records) (get eq c.entries.walk.merged.records) (keys mid.merged.records) (get eq mid.merged.records) (gathered eq Augment (offers_of eq rules moves (links_body bodies y.1)))) by (taken.2 rules bodies are) in
          subst (λ y. next (include_of y) new.walk.replaced.marks.items new.walk.replaced.keys.items new.defaults new.walk.merged.records) (sym w.last-is)
          (subst (λ v. next included v.replaced.marks.items v.replaced.keys.items new.defaults v.merged.records) (sym w.walk-is)
          (subst (λ e. next included mid.replaced.marks.items mid.replaced.keys.items e mid.merged.records) (sym w.defaults-is)
          (subst (λ r. next included r.marks.items r.keys.items d mid.merged.records) (sym w.in_ok-merge_again.ensures.replaced)
          (subst (λ y. next y then.marks.items then.keys.items d mid.merged.records) (sym by)
          (covering_again form eq laws rules moves bodies place xs before x l within is stands up)))))
      | else-stands_between+in_ok-merge_again+else-branch+in-Own+in_ok-defaults-in-Own w ↦
          let whole = w.in_ok-merge_again.ensures.whole w.if-branch.false in
          let mid = w.merge_again.new.walk in
          let now = w.merge_own.new.walk in
          let placed : Placed = record { place = place; stated = w.in-Own.stated } in
          let said = w.in_ok-defaults-in-Own.ensures in
          let same = subst (λ r. Covering form eq laws rules moves bodies place xs (keys old) (get eq old) last c.entries.since r.marks.items r.keys.items i d (keys mid.merged.records) (get eq mid.merged.records)) (sym w.in_ok-merge_again.ensures.replaced)
          (subst (λ m. Covering form eq laws rules moves bodies place xs (keys old) (get eq old) last c.entries.since then.marks.items then.keys.items i d (keys m) (get eq m)) (sym whole) l) in
          let back = subst (λ b. TakesBack eq b mid.replaced.keys.items now.replaced.keys.items (placed_offers rules d placed)) (sym (ap (λ e. is_replace (included_by e).0) w.in-Own.is)) said.back in
          subst (λ y. next (include_of y) new.walk.replaced.marks.items new.walk.replaced.keys.items new.defaults new.walk.merged.records) (sym w.last-is)
          (subst (λ v. next included v.replaced.marks.items v.replaced.keys.items new.defaults v.merged.records) (sym w.walk-is)
          (subst (λ e. next included now.replaced.marks.items now.replaced.keys.items e now.merged.records) (sym w.defaults-is)
          (subst (λ ms. next included ms.items now.replaced.keys.items w.in_ok-defaults-in-Own.defaults now.merged.records) (sym said.marks)
          (subst (λ y. next y mid.replaced.marks.items now.replaced.keys.items w.in_ok-defaults-in-Own.defaults now.merged.records) (sym by)
          (covering_by form eq rules moves bodies place xs last i d x within is (placed_offers rules d placed) (placed_faults rules d placed)
          (ap (entry_offers eq rules moves bodies place d) w.in-Own.is) (ap (entry_faults eq rules moves bodies place d) w.in-Own.is)
          laws w.in_ok-defaults-in-Own.defaults (ap (entry_next rules d) w.in-Own.is ∙ sym said.next) same back (adds_behind (included_offers eq rules moves bodies last) said.adds))))))
      | else-stands_between+in_ok-merge_again+else-branch+in-Include+in_ok-merge_after-in-Include w ↦
          let whole = w.in_ok-merge_again.ensures.whole w.if-branch.false in
          let mid = w.merge_again.new.walk in
          let now = w.merge_after.new.merged in
          let same = subst (λ r. Covering form eq laws rules moves bodies place xs (keys old) (get eq old) last c.entries.since r.marks.items r.keys.items i d (keys mid.merged.records) (get eq mid.merged.records)) (sym w.in_ok-merge_again.ensures.replaced)
          (subst (λ m. Covering form eq laws rules moves bodies place xs (keys old) (get eq old) last c.entries.since then.marks.items then.keys.items i d (keys m) (get eq m)) (sym whole) l) in
          let offered = subst (λ e. entry_offers eq rules moves bodies place d e ≡ included_offers eq rules moves bodies (included_by e)) (sym w.in-Include.is) refl in
          let blamed = subst (λ e. entry_faults eq rules moves bodies place d e ≡ included_faults eq rules moves bodies (included_by e)) (sym w.in-Include.is) refl in
          let noted = mid.replaced.keys.items in
          let back = subst (λ y. TakesBack eq (is_replace y.0) noted noted (included_offers eq rules moves bodies included)) by (include_back eq rules moves bodies noted included) in
          subst (λ y. next (include_of y) new.walk.replaced.marks.items new.walk.replaced.keys.items new.defaults new.walk.merged.records) (sym w.last-is)
          (subst (λ v. next included v.replaced.marks.items v.replaced.keys.items new.defaults v.merged.records) (sym w.walk-is)
          (subst (λ e. next included mid.replaced.marks.items noted e now.records) (sym w.defaults-is)
          (subst (λ y. next y mid.replaced.marks.items noted d now.records) (sym by)
          (covering_by form eq rules moves bodies place xs last i d x within is (included_offers eq rules moves bodies included) (included_faults eq rules moves bodies included)
          (offered ∙ sym (ap (included_offers eq rules moves bodies) by)) (blamed ∙ sym (ap (included_faults eq rules moves bodies) by))
          laws d (ap (entry_next rules d) w.in-Include.is) same back (w.in_ok-merge_after-in-Include.ensures rules bodies are same.going.clean)))))
    ])))

pub returns : goal.returns
returns g c = λ bodies are.
    let form = g.R.Fields.form in
    let eq = g.R.Key.PartialEq.eq in
    let rules = g.R.Fields.rules c.args.context.now in
    let moves = g.R.Fields.moves in
    let place = c.args.map.now.place in
    let xs = c.args.map.now.entries.items in
    let l = (c.entries.invariant bodies are).going in
    let over = subst (λ ys. length ys ≤ c.entries.place) c.as_slice-entries.ensures.value c.entries-test.false in
    record {
      shows = going_shown form eq rules moves bodies place xs l over;
      faultless = going_clean form eq rules moves bodies place xs l over;
      fault = tt;
    }

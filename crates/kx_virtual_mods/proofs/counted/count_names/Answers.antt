use Rattle.std.proofs.Common.{◌≡◌, ◌<◌, ◌≤◌, ◌+◌, ◌∷◌, ◌∙◌, Contains, Ok, ap, drop, get_or, length, subst, sym, take}
use Rattle.std.specs.List.{flat_map}
use Rattle.kx_lex.specs.declared.fault.Fault.TheVariants.{Memory}
use Rattle.kx_include.specs.Shared.{expanded_body}
use Rattle.kx_virtual_mods.specs.Counted.{crossing, names_behind, statements_of}
use Rattle.kx_virtual_mods.specs.Tallies.{Adds, bodies_of, map_statements}
use Rattle.kx_virtual_mods.proofs.Adding.{flat_done, flat_next, going_blames, going_on}
use Rattle.kx_merge.proofs.Going.{reported_or_out}
use Rattle.kx_virtual_mods.proofs.Reached.{expansion_said}
use Rattle.kx_virtual_mods.proofs.counted.count_names.Goals as goal

pub sections-preserved : goal.sections-preserved
sections-preserved g c =
    let names = g.N.Naming.names in
    let maps = c.args.expansion.now.maps.items in
    let said = map_statements (take (length maps) (bodies_of maps)) in
    let ss = c.args.expansion.now.sections.items in
    let i = c.sections.section-index in
    let x = c.section-item.result in
    going_on names c.args.limit maps c.args.names c.sections.tally c.add_map.new.tally (flat_map said ss) (flat_map said (drop i ss)) (said x) (flat_map said (drop (i + 1) ss))
    (flat_next said ss i x (subst (λ ys. i < length ys) c.deref-section-items.ensures.value c.sections-test.true) (subst (λ ys. x ≡ get_or ys i x) c.deref-section-items.ensures.value c.section-item.is)) c.sections.invariant
    (subst (λ ms. Adds names {X = Unit {0}} c.args.limit ms c.sections.tally (Ok tt) c.add_map.new.tally (map_statements (take (length ms) (bodies_of ms)) x)) c.as_slice-maps.ensures.value c.in_ok-add_map.ensures)

pub returns-in_err-add_map-clause-faults : goal.returns-in_err-add_map-clause-faults
returns-in_err-add_map-clause-faults g c =
    let names = g.N.Naming.names in
    let maps = c.args.expansion.now.maps.items in
    let said = map_statements (take (length maps) (bodies_of maps)) in
    let ss = c.args.expansion.now.sections.items in
    let i = c.sections.section-index in
    let x = c.section-item.result in
    let e = c.in_err-add_map.field-0.0 in
    reported_or_out c.from_residual-in_err-add_map.result (crossing names c.args.limit c.args.names (statements_of (expanded_body c.args.expansion.now))) e c.from_residual-in_err-add_map.ensures.1
    (subst (λ saids. Contains (Memory ∷ crossing names c.args.limit c.args.names saids) e) (sym (expansion_said maps ss))
    (going_blames names c.args.limit maps c.args.names c.sections.tally (flat_map said ss) (flat_map said (drop i ss)) (said x) (flat_map said (drop (i + 1) ss)) e
    (flat_next said ss i x (subst (λ ys. i < length ys) c.deref-section-items.ensures.value c.sections-test.true) (subst (λ ys. x ≡ get_or ys i x) c.deref-section-items.ensures.value c.section-item.is)) c.sections.invariant
    (subst (λ ms. Contains (Memory ∷ crossing names c.args.limit c.sections.tally.names (map_statements (take (length ms) (bodies_of ms)) x)) e) c.as_slice-maps.ensures.value c.in_err-add_map.ensures.fault)))

pub returns-clause-names : goal.returns-clause-names
returns-clause-names g c =
    let names = g.N.Naming.names in
    let maps = c.args.expansion.now.maps.items in
    let said = map_statements (take (length maps) (bodies_of maps)) in
    let ss = c.args.expansion.now.sections.items in
    ap (names_behind names c.sections.tally.names) (sym (flat_done said ss c.sections.section-index (subst (λ ys. length ys ≤ c.sections.section-index) c.deref-section-items.ensures.value c.sections-test.false)))
    ∙ c.sections.invariant.names_go ∙ ap (names_behind names c.args.names) (sym (expansion_said maps ss))

pub returns-clause-faults : goal.returns-clause-faults
returns-clause-faults g c =
    let names = g.N.Naming.names in
    let maps = c.args.expansion.now.maps.items in
    let said = map_statements (take (length maps) (bodies_of maps)) in
    let ss = c.args.expansion.now.sections.items in (
      ap (crossing names c.args.limit c.args.names) (expansion_said maps ss) ∙ c.sections.invariant.faults_go
          ∙ ap (crossing names c.args.limit c.sections.tally.names) (flat_done said ss c.sections.section-index (subst (λ ys. length ys ≤ c.sections.section-index) c.deref-section-items.ensures.value c.sections-test.false)),
      tt,
    )

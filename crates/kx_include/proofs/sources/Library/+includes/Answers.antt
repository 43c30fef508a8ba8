use Rattle.std.proofs.Common.{◌+◌, ◌-◌, Some, None, length, drop, refl, sym, ap, subst, ◌∙◌, arith}
use Rattle.std.proofs.lemmas.List.{drop_all}
use Rattle.kx_include.proofs.Knowing.{number_known, number_pushed}
use Rattle.kx_include.proofs.Walking.{gone_all, gone_fault, gone_step}
use Rattle.kx_include.proofs.Visiting.{AreEntries, AreLinks, IsEntry, IsLink, no_entries, no_links, one_entry, one_link, drop_next, below, blamed_only, err_passed, file_made, include_made, map_made, ok_as, part_blamed, part_made, positive}
use Rattle.kx_include.specs.IncludeFaults.{at, in_depth, in_file, in_include, in_item, in_map, in_part}
use Rattle.kx_parse.specs.IncludeText.{parts_of}
use Rattle.kx_include.specs.Library.{file_of, items_in, place_in}
use Rattle.kx_include.specs.Limits.{most_parts}
use Rattle.kx_include.specs.Sharing.{Blames, Expands, IsFound, IsKnownMap, IsTextOf}
use Rattle.kx_include.specs.declared.expansion.Entry.TheVariants as entry
use Rattle.kx_include.specs.declared.expansion.Map.{Map}
use Rattle.kx_lex.specs.declared.fault.Fault.TheVariants as fault
use Rattle.kx_include.proofs.sources.Library.+includes.Goals as goal

pub expand_file-returns-in-Some-place_in-clause-made : goal.expand_file-returns-in-Some-place_in-clause-made
expand_file-returns-in-Some-place_in-clause-made t c =
    ok_as c.map_number.result _ _ (λ r e. file_made c.args.self.now c.args.kind c.args.depth c.args.seen c.args.maps.now.items c.map_number.new.maps.items _ c.args.text c.args.file r.0 c.in-Some-place_in.place r.1.depth r.1.count (sym c.fault_of.ensures ∙ c.in_default.is) (sym c.place_in.ensures ∙ c.in-Some-place_in.is) e) c.map_number.ensures.made

pub expand_item-returns-in_ok-links-in-Include-clause-made : goal.expand_item-returns-in_ok-links-in-Include-clause-made
expand_item-returns-in_ok-links-in-Include-clause-made t c =
    let item = c.in-Include in
    let here = at c.args.place.file item.text.span in
    let whole = at c.args.place.file item.span in
    let got = c.in_ok-links-in-Include in
    include_made c.args.self.now c.args.kind c.args.place c.args.depth c.args.seen c.args.maps.now.items c.expand_text.new.maps.items item.mode item.text item.span c.args.item.now (entry.Include item.mode got.links) got.links.items got.reach.depth got.reach.count item.is (λ bodies rest. refl)
    (subst (λ bs. Expands c.args.self.now c.args.kind c.args.depth c.args.seen c.args.maps.now.items c.expand_text.new.maps.items (λ d. in_include (in_depth d c.args.self.now c.args.kind here) here whole (parts_of bs)) (IsTextOf c.args.self.now c.args.kind (parts_of bs) got.links.items) got.reach.depth got.reach.count) c.as_slice-bytes.ensures got.ensures.made)

pub expand_map-returns-clause-made : goal.expand_map-returns-clause-made
expand_map-returns-clause-made t c =
    let got = c.in_ok-entries in
    let m : Map = record { place = c.args.place; entries = got.entries; depth = got.reach.depth; parts = got.reach.count - c.args.seen } in
    map_made c.args.self.now c.args.kind c.args.place c.args.depth c.args.seen c.args.maps.now.items c.expand_items.new.maps.items m got.reach.depth got.reach.count refl refl refl got.ensures.made

pub expand_part-returns-in_default-clause-fault : goal.expand_part-returns-in_default-clause-fault
expand_part-returns-in_default-clause-fault t c =
    part_blamed c.args.self.now c.args.kind c.args.depth c.args.seen c.args.text c.args.whole c.args.part.now None (fault.FileMissing c.args.text) (below c.args.seen most_parts c.requires.few c.if-seen-eq-MOST_PARTS.false) (positive c.args.depth c.if-depth-eq0.false)
    (sym (sym c.in_default.is ∙ c.in_ok-file.ensures ∙ ap (file_of c.args.self.now.names c.args.kind) c.file.ensures)) (blamed_only (c.args.seen + 1) (fault.FileMissing c.args.text))

pub expand_part-returns-in_err-map-clause-fault : goal.expand_part-returns-in_err-map-clause-fault
expand_part-returns-in_err-map-clause-fault t c =
    let e = c.in_err-map.field-0.0 in
    err_passed c.from_residual-in_err-map.result e _ c.from_residual-in_err-map.ensures.1
    (part_blamed c.args.self.now c.args.kind c.args.depth c.args.seen c.args.text c.args.whole c.args.part.now (Some c.in-Some.file) e (below c.args.seen most_parts c.requires.few c.if-seen-eq-MOST_PARTS.false) (positive c.args.depth c.if-depth-eq0.false)
    (sym (sym c.in-Some.is ∙ c.in_ok-file.ensures ∙ ap (file_of c.args.self.now.names c.args.kind) c.file.ensures))
    (subst (λ m. Blames (c.args.seen + 1) (in_file (in_map (c.args.depth - 1) c.args.self.now c.args.kind) c.args.self.now c.args.kind m c.args.text (Some c.in-Some.file)) e) c.map.ensures c.in_err-map.ensures.fault))

pub expand_part-returns-clause-made : goal.expand_part-returns-clause-made
expand_part-returns-clause-made t c =
    let got = c.in_ok-map in
    part_made c.args.self.now c.args.kind c.args.depth c.args.seen c.args.maps.now.items c.expand_file.new.maps.items c.args.text c.args.whole c.args.part.now _ c.in-Some.file got.reach.depth (got.reach.depth + 1) got.reach.count
    (sym (sym c.in-Some.is ∙ c.in_ok-file.ensures ∙ ap (file_of c.args.self.now.names c.args.kind) c.file.ensures)) (cc) (cc) refl (positive c.args.depth c.if-depth-eq0.false)
    (subst (λ m. Expands c.args.self.now c.args.kind (c.args.depth - 1) (c.args.seen + 1) c.args.maps.now.items c.expand_file.new.maps.items (λ d. in_file (in_map d c.args.self.now c.args.kind) c.args.self.now c.args.kind m c.args.text (Some c.in-Some.file)) (IsFound c.args.self.now c.args.kind (place_in c.args.self.now c.args.kind m c.in-Some.file) got.map) got.reach.depth got.reach.count) c.map.ensures got.ensures.made)

pub map_number-returns-in-Some-clause-made : goal.map_number-returns-in-Some-clause-made
map_number-returns-in-Some-clause-made t c =
    number_known c.args.self.now c.args.kind c.args.place c.args.depth c.args.seen c.in-Some.known.0 c.in-Some.known.1 c.args.maps.now.items c.requires.known
    (subst (λ ms. IsKnownMap ms c.args.place c.args.depth c.args.seen c.in-Some.known.0 c.in-Some.known.1) c.as_slice.ensures.value c.in-Some.ensures)

pub map_number-returns-clause-made : goal.map_number-returns-clause-made
map_number-returns-clause-made t c =
    let m = c.in_ok-map.map in
    number_pushed c.args.self.now c.args.kind c.args.place c.args.depth c.args.seen c.args.maps.now.items c.expand_map.new.maps.items c.push.new.self.items m c.len-number.result m.depth (c.args.seen + m.parts) c.in_ok-push.ensures.items (omega (arith, c.expand_map.new.maps.ok.0, c.len-number.ensures)) c.in_ok-map.ensures.place refl refl c.in_ok-map.ensures.made

pub expand_items-returns-in_err-entry-clause-fault : goal.expand_items-returns-in_err-entry-clause-fault
expand_items-returns-in_err-entry-clause-fault t c =
    err_passed c.from_residual-in_err-entry.result c.in_err-entry.field-0.0 _ c.from_residual-in_err-entry.ensures.1
    (gone_fault c.args.self.now c.args.kind (λ d. in_item (in_depth d c.args.self.now c.args.kind) c.args.place.file) (AreEntries c.args.self.now c.args.kind c.args.place) (IsEntry c.args.self.now c.args.kind c.args.place) c.args.depth c.args.seen c.args.maps.now.items c.items.maps.items (items_in c.args.self.now c.args.place) c.items.left.now c.items.entries.items c.items.deepest c.items.count c.in-Some.item.now c.in-Some.rest.now c.in_err-entry.field-0.0 c.in-Some.ensures.cases.0 c.items.invariant c.in_err-entry.ensures.fault)

pub expand_items-items-preserved : goal.expand_items-items-preserved
expand_items-items-preserved t c =
    let got = c.in_ok-entry in
    let depth = c.max-deepest.ensures in
    gone_step c.args.self.now c.args.kind (λ d. in_item (in_depth d c.args.self.now c.args.kind) c.args.place.file) (AreEntries c.args.self.now c.args.kind c.args.place) (IsEntry c.args.self.now c.args.kind c.args.place) (no_entries c.args.self.now c.args.kind c.args.place) (one_entry c.args.self.now c.args.kind c.args.place) c.args.depth c.args.seen c.args.maps.now.items c.items.maps.items c.expand_item.new.maps.items (items_in c.args.self.now c.args.place) c.items.left.now c.items.entries.items c.push.new.self.items c.items.deepest c.items.count got.reach.depth c.max-deepest.result got.reach.count c.in-Some.item.now got.entry c.in-Some.rest.now
    c.in-Some.ensures.cases.0 c.in_ok-push.ensures.items (omega arith) (omega arith) (let deep = c.items.invariant.within in let deeper = got.ensures.made.within in omega arith) c.items.invariant got.ensures.made

pub expand_items-returns-clause-made : goal.expand_items-returns-clause-made
expand_items-returns-clause-made t c = gone_all c.args.self.now c.args.kind (λ d. in_item (in_depth d c.args.self.now c.args.kind) c.args.place.file) (AreEntries c.args.self.now c.args.kind c.args.place) (IsEntry c.args.self.now c.args.kind c.args.place) (no_entries c.args.self.now c.args.kind c.args.place) (one_entry c.args.self.now c.args.kind c.args.place) c.args.depth c.args.seen c.args.maps.now.items c.items.maps.items (items_in c.args.self.now c.args.place) c.items.left.now c.items.entries.items c.items.deepest c.items.count c.in_default.ensures.cases c.items.invariant

pub expand_parts-returns-in_err-link-clause-fault : goal.expand_parts-returns-in_err-link-clause-fault
expand_parts-returns-in_err-link-clause-fault t c =
    err_passed c.from_residual.result c.in_err-link.field-0.0 _ c.from_residual.ensures.1
    (gone_fault c.args.self.now c.args.kind (λ d. in_part (in_depth d c.args.self.now c.args.kind c.args.text) c.args.whole) (AreLinks c.args.self.now c.args.kind) (IsLink c.args.self.now c.args.kind) c.args.depth c.args.seen c.args.maps.now.items c.parts.maps.items c.args.parts.now (drop c.parts.part-index c.args.parts.now) c.parts.links.items c.parts.deepest c.parts.count c.part-item.result (drop (c.parts.part-index + 1) c.args.parts.now) c.in_err-link.field-0.0 (drop_next c.args.parts.now c.parts.part-index c.part-item.result c.parts-test.true c.part-item.is) c.parts.invariant c.in_err-link.ensures.fault)

pub expand_parts-parts-preserved : goal.expand_parts-parts-preserved
expand_parts-parts-preserved t c =
    let got = c.in_ok-link in
    let depth = c.max-deepest.ensures in
    gone_step c.args.self.now c.args.kind (λ d. in_part (in_depth d c.args.self.now c.args.kind c.args.text) c.args.whole) (AreLinks c.args.self.now c.args.kind) (IsLink c.args.self.now c.args.kind) (no_links c.args.self.now c.args.kind) (one_link c.args.self.now c.args.kind) c.args.depth c.args.seen c.args.maps.now.items c.parts.maps.items c.expand_part.new.maps.items c.args.parts.now (drop c.parts.part-index c.args.parts.now) c.parts.links.items c.push.new.self.items c.parts.deepest c.parts.count got.reach.depth c.max-deepest.result got.reach.count c.part-item.result got.link (drop (c.parts.part-index + 1) c.args.parts.now)
    (drop_next c.args.parts.now c.parts.part-index c.part-item.result c.parts-test.true c.part-item.is) c.in_ok-push.ensures.items (omega arith) (omega arith) (let deep = c.parts.invariant.within in let deeper = got.ensures.made.within in omega arith) c.parts.invariant got.ensures.made

pub expand_parts-returns-clause-made : goal.expand_parts-returns-clause-made
expand_parts-returns-clause-made t c = gone_all c.args.self.now c.args.kind (λ d. in_part (in_depth d c.args.self.now c.args.kind c.args.text) c.args.whole) (AreLinks c.args.self.now c.args.kind) (IsLink c.args.self.now c.args.kind) (no_links c.args.self.now c.args.kind) (one_link c.args.self.now c.args.kind) c.args.depth c.args.seen c.args.maps.now.items c.parts.maps.items c.args.parts.now (drop c.parts.part-index c.args.parts.now) c.parts.links.items c.parts.deepest c.parts.count (ap length (drop_all c.parts.part-index c.args.parts.now c.parts-test.false)) c.parts.invariant

use Rattle.std.proofs.Common.{◌≡◌, ◌<◌, ◌+◌, ◌∷◌, Contains, None, drop, get_or, length, refl, subst, sym, take}
use Rattle.std.specs.List.{flat_map, slice_get}
use Rattle.kx_include.specs.Shared.{body_at}
use Rattle.kx_include.specs.declared.expansion.Link.{Link}
use Rattle.kx_lex.specs.declared.fault.Fault.TheVariants.{Memory}
use Rattle.kx_tree.specs.declared.tree.Mode.TheVariants.{Augment}
use Rattle.kx_virtual_mods.specs.Counted.{crossing, statements_of}
use Rattle.kx_virtual_mods.specs.declared.counted.Tally.{Tally}
use Rattle.kx_virtual_mods.specs.Tallies.{Adds, HasAll, bodies_of, entry_statements, links_statements, map_statements}
use Rattle.kx_virtual_mods.proofs.Adding.{adds_err, adds_marked, adds_none, adds_statement, flat_next, going_blames, going_on, is_marked}
use Rattle.kx_merge.proofs.Going.{read_again}
use Rattle.kx_virtual_mods.proofs.Reached.{included_at, included_is}
use Rattle.kx_virtual_mods.proofs.counted.+statements.Goals as goal

pub add_entry-returns-in-Own : goal.add_entry-returns-in-Own
add_entry-returns-in-Own g t c =
    let names = g.N.Naming.names in
    let bodies = take c.args.below (bodies_of c.args.maps.now) in
    let new : Tally = record { names = c.add_statement.new.names; done = c.args.tally.now.done } in
    subst (λ e. Adds names {X = Unit {0}} c.args.limit c.args.maps.now c.args.tally.now c.add_statement.result new (entry_statements bodies c.args.place e)) (sym c.in-Own.is)
    (adds_statement names c.args.limit c.args.maps.now c.args.tally.now new (c.args.place, c.in-Own.stated.now) c.add_statement.result c.requires.done refl c.add_statement.ensures.added c.add_statement.ensures.few c.add_statement.ensures.fault)

pub add_included-returns-then-is_done : goal.add_included-returns-then-is_done
add_included-returns-then-is_done g t c =
    let names = g.N.Naming.names in
    let maps = c.args.maps.now in
    let n = c.args.number in
    adds_none names c.args.limit maps c.args.tally.now (statements_of (body_at (take c.args.below (bodies_of maps)) n))
    (subst (HasAll names c.args.tally.now.names) (sym (included_at maps c.args.below n c.if-number-below.false)) (c.requires.done n (is_marked (slice_get c.args.tally.now.done.items n) c.is_done.result c.is_done.ensures c.if-is_done.true)))
    c.requires.few c.requires.done

pub add_included-returns-in_err-add_map : goal.add_included-returns-in_err-add_map
add_included-returns-in_err-add_map g t c =
    let names = g.N.Naming.names in
    let maps = c.args.maps.now in
    let n = c.args.number in
    let e = c.in_err-add_map.field-0.0 in
    adds_err names c.args.limit maps c.args.tally.now c.add_map.new.tally (statements_of (body_at (take c.args.below (bodies_of maps)) n)) c.from_residual.result e c.from_residual.ensures.1
    (subst (λ saids. Contains (Memory ∷ crossing names c.args.limit c.args.tally.now.names saids) e) (sym (included_is maps c.args.below n c.index-maps-number.result c.if-number-below.false c.requires.within c.index-maps-number.is)) c.in_err-add_map.ensures.fault)

pub add_included-returns : goal.add_included-returns
add_included-returns g t c =
    let maps = c.args.maps.now in
    let n = c.args.number in
    adds_marked g.N.Naming.names c.args.limit maps c.args.tally.now c.add_map.new.tally c.mark.new.self n (map_statements (take n (bodies_of maps)) c.index-maps-number.result) (statements_of (body_at (take c.args.below (bodies_of maps)) n))
    (included_is maps c.args.below n c.index-maps-number.result c.if-number-below.false c.requires.within c.index-maps-number.is)
    (included_at maps c.args.below n c.if-number-below.false) c.in_ok-add_map.ensures c.mark.ensures.names c.mark.ensures.done

pub add_links-links-preserved : goal.add_links-links-preserved
add_links-links-preserved g t c =
    let bodies = take c.args.below (bodies_of c.args.maps.now) in
    let ls = c.args.links.now in
    let i = c.links.link-index in
    let first : Link = record { mode = Augment; group = None; map = 0 } in
    let x : Link = get_or ls i first in
    going_on g.N.Naming.names c.args.limit c.args.maps.now c.args.tally.now.names c.links.tally c.add_included.new.tally (links_statements bodies ls) (links_statements bodies (drop i ls)) (statements_of (body_at bodies x.map)) (links_statements bodies (drop (i + 1) ls))
    (flat_next (λ (l : Link). statements_of (body_at bodies l.map)) ls i x c.links-test.true (read_again ls i first c.links-test.true)) c.links.invariant c.in_ok-add_included.ensures

pub add_links-returns-in_err-add_included : goal.add_links-returns-in_err-add_included
add_links-returns-in_err-add_included g t c =
    let bodies = take c.args.below (bodies_of c.args.maps.now) in
    let ls = c.args.links.now in
    let i = c.links.link-index in
    let first : Link = record { mode = Augment; group = None; map = 0 } in
    let x : Link = get_or ls i first in
    let e = c.in_err-add_included.field-0.0 in
    adds_err g.N.Naming.names c.args.limit c.args.maps.now c.args.tally.now c.add_included.new.tally (links_statements bodies ls) c.from_residual.result e c.from_residual.ensures.1
    (going_blames g.N.Naming.names c.args.limit c.args.maps.now c.args.tally.now.names c.links.tally (links_statements bodies ls) (links_statements bodies (drop i ls)) (statements_of (body_at bodies x.map)) (links_statements bodies (drop (i + 1) ls)) e
    (flat_next (λ (l : Link). statements_of (body_at bodies l.map)) ls i x c.links-test.true (read_again ls i first c.links-test.true)) c.links.invariant c.in_err-add_included.ensures.fault)

pub add_map-entries-preserved : goal.add_map-entries-preserved
add_map-entries-preserved g t c =
    let bodies = take c.args.below (bodies_of c.args.maps.now) in
    let m = c.args.map.now in
    let es = m.entries.items in
    let i = c.entries.entry-index in
    let x = c.entry-item.result in
    going_on g.N.Naming.names c.args.limit c.args.maps.now c.args.tally.now.names c.entries.tally c.add_entry.new.tally (map_statements bodies m) (flat_map (entry_statements bodies m.place) (drop i es)) (entry_statements bodies m.place x) (flat_map (entry_statements bodies m.place) (drop (i + 1) es))
    (flat_next (entry_statements bodies m.place) es i x (subst (λ ys. i < length ys) c.deref-entry-items.ensures.value c.entries-test.true) (subst (λ ys. x ≡ get_or ys i x) c.deref-entry-items.ensures.value c.entry-item.is)) c.entries.invariant c.in_ok-add_entry.ensures

pub add_map-returns-in_err-add_entry : goal.add_map-returns-in_err-add_entry
add_map-returns-in_err-add_entry g t c =
    let bodies = take c.args.below (bodies_of c.args.maps.now) in
    let m = c.args.map.now in
    let es = m.entries.items in
    let i = c.entries.entry-index in
    let x = c.entry-item.result in
    let e = c.in_err-add_entry.field-0.0 in
    adds_err g.N.Naming.names c.args.limit c.args.maps.now c.args.tally.now c.add_entry.new.tally (map_statements bodies m) c.from_residual.result e c.from_residual.ensures.1
    (going_blames g.N.Naming.names c.args.limit c.args.maps.now c.args.tally.now.names c.entries.tally (map_statements bodies m) (flat_map (entry_statements bodies m.place) (drop i es)) (entry_statements bodies m.place x) (flat_map (entry_statements bodies m.place) (drop (i + 1) es)) e
    (flat_next (entry_statements bodies m.place) es i x (subst (λ ys. i < length ys) c.deref-entry-items.ensures.value c.entries-test.true) (subst (λ ys. x ≡ get_or ys i x) c.deref-entry-items.ensures.value c.entry-item.is)) c.entries.invariant c.in_err-add_entry.ensures.fault)

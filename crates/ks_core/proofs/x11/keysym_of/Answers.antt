use Rattle.std.proofs.Common.{◌≡◌, ℕ, ◌<◌, List, Some, get_or, length, map, sym, ap, ◌∙◌, refl, arith, []}
use Rattle.std.proofs.lemmas.Bool.{both_ways}
use Rattle.std.proofs.lemmas.Slice.Eq.{bytes_eq-Decides}
use Rattle.std.specs.Str.{bytes_eq}
use Rattle.ks_core.specs.Entry.{Entry}
use Rattle.ks_core.specs.X11.{x11_names}
use Rattle.ks_core.specs.X11Index.{place_of, slot_of, in_slot}
use Rattle.ks_core.proofs.X11Lemmas.{any-default, hit, miss, keysyms-length, keysym-at}
use Rattle.ks_core.proofs.x11.keysym_of.Goals as goal

-- a place among the keysyms is one among the names
inside : (keysyms : List ℕ) (place : ℕ) → keysyms ≡ map (λ (e : Entry). e.1) x11_names → place < length keysyms → place < length x11_names
inside keysyms place are within = let count = keysyms-length x11_names in let same = ap length are in omega (arith, within, count, same)

pub returns-then-eq : goal.returns-then-eq
returns-then-eq c =
    let place = c.from-place.result in
    let within = inside c.keysyms.result.now place c.keysyms.ensures c.in-Some.ensures.lookup.3.0 in
    let same : (get_or x11_names place ([], 0)).0 ≡ c.args.name.now = sym c.bytes_at.ensures ∙ (bytes_eq-Decides c.bytes_at.result.now c.args.name.now).0 (sym c.eq.ensures ∙ c.if-eq.true) in
    let found = hit c.by_hash-placing.result.shifts.now c.by_hash-placing.result.slots.now x11_names c.by_hash-placing.ensures.placed c.args.name.now place ([], 0) within same in
    let keysym : c.in-Some.keysym.now ≡ (get_or x11_names place ([], 0)).1 =
    c.in-Some.ensures.lookup.3.1 0 ∙ ap (λ ks. get_or ks place 0) c.keysyms.ensures ∙ keysym-at x11_names place 0 ([], 0) within in
    ap Some keysym ∙ sym found

pub returns-else-eq : goal.returns-else-eq
unfolding place_of slot_of in_slot
returns-else-eq c =
    let at : c.from-place.result ≡ place_of c.by_hash-placing.result.shifts.now c.by_hash-placing.result.slots.now c.args.name.now =
    c.from-place.ensures ∙ rw (c.from.ensures, c.hash_of-hash.ensures.value) refl in
    miss c.by_hash-placing.result.shifts.now c.by_hash-placing.result.slots.now x11_names c.by_hash-placing.ensures.placed c.args.name.now (λ e within has.
    let inside : c.from-place.result < length x11_names = omega (arith, within, at) in
    let here : (get_or x11_names c.from-place.result ([], 0)).0 ≡ c.args.name.now =
    ap (λ (x : Entry). x.0) (any-default x11_names c.from-place.result ([], 0) e inside) ∙ ap (λ d. (get_or x11_names d e).0) at ∙ has in
    both_ways (bytes_eq c.bytes_at.result.now c.args.name.now) (sym c.eq.ensures ∙ c.if-eq.false) ((bytes_eq-Decides c.bytes_at.result.now c.args.name.now).1 (c.bytes_at.ensures ∙ here)))

pub returns-in-None : goal.returns-in-None
unfolding place_of slot_of in_slot
returns-in-None c =
    let at : c.from-place.result ≡ place_of c.by_hash-placing.result.shifts.now c.by_hash-placing.result.slots.now c.args.name.now =
    c.from-place.ensures ∙ rw (c.from.ensures, c.hash_of-hash.ensures.value) refl in
    let count = keysyms-length x11_names in
    let same = ap length c.keysyms.ensures in
    miss c.by_hash-placing.result.shifts.now c.by_hash-placing.result.slots.now x11_names c.by_hash-placing.ensures.placed c.args.name.now (λ e within has.
    omega (arith, within, c.in-None.ensures.lookup.3, at, count, same))

use Rattle.std.proofs.Common.{◌+◌, ◌≤◌, length, [], arith}
use Rattle.std.proofs.lemmas.Int.{ints}
use Rattle.ks_core.proofs.X11Lemmas.{starts-length, starts-few, start-inside, start-next, name-at}
use Rattle.ks_core.proofs.x11.bytes_at.Goals as goal

pub offset_bounds-names-place : goal.offset_bounds-names-place
offset_bounds-names-place c = let l = starts-length _ _ c.all_names-names.ensures in let f = starts-few _ _ c.all_names-names.ensures in omega (arith, ints, l, f, c.requires)

pub bounds-names-place : goal.bounds-names-place
bounds-names-place c = let l = starts-length _ _ c.all_names-names.ensures in omega (arith, l, c.requires)

pub overflow_add-place : goal.overflow_add-place
overflow_add-place c = let l = starts-length _ _ c.all_names-names.ensures in let f = starts-few _ _ c.all_names-names.ensures in omega (arith, ints, l, f, c.requires)

pub offset_bounds-names-place-2 : goal.offset_bounds-names-place-2
offset_bounds-names-place-2 c = let l = starts-length _ _ c.all_names-names.ensures in let f = starts-few _ _ c.all_names-names.ensures in omega (arith, ints, l, f, c.requires)

pub bounds-names-place-2 : goal.bounds-names-place-2
bounds-names-place-2 c = let l = starts-length _ _ c.all_names-names.ensures in omega (arith, l, c.requires)

pub slice_bounds-result-count : goal.slice_bounds-result-count
slice_bounds-result-count c =
    let l = starts-length _ _ c.all_names-names.ensures in
    let n = start-next _ _ c.all_names-names.ensures c.args.place 0 (omega (arith, l, c.requires)) in
    rw (c.from-start.ensures, c.from-end.ensures) n

pub slice_bounds-result-start : goal.slice_bounds-result-start
slice_bounds-result-start c =
    let l = starts-length _ _ c.all_names-names.ensures in
    let n = start-next _ _ c.all_names-names.ensures c.args.place 0 (omega (arith, l, c.requires)) in
    let below : c.from-start.result ≤ c.from-end.result = rw (c.from-start.ensures, c.from-end.ensures) n in
    let i = start-inside _ _ c.all_names-names.ensures (c.args.place + 1) 0 (omega (arith, l, c.requires)) in
    let inside : c.from-end.result ≤ length c.as_bytes.result.now = rw (c.from-end.ensures, c.as_bytes.ensures.value) i in
    omega (arith, below, inside)

pub returns : goal.returns
returns c = rw (c.from-start.ensures, c.from-end.ensures, c.as_bytes.ensures.value) (name-at _ _ c.all_names-names.ensures c.args.place 0 ([], 0) c.requires)

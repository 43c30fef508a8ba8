use Rattle.std.proofs.Common.{◌++◌, ◌+◌, ap, append_assoc, append-nil, drop, sym, ◌∙◌}
use Rattle.std.specs.List.{flat_map}
use Rattle.kx_merge.proofs.Going.{drop_next}
use Rattle.kx_clients.specs.Aliases.{known_alias, names_in}
use Rattle.kx_clients.proofs.Lists.{none_left}
use Rattle.kx_clients.proofs.aliases.known_of.Goals as goal

pub records-preserved : goal.records-preserved
records-preserved c =
    let f = known_alias c.args.codes.now in
    let records = c.args.records.now in
    let i = c.records.record-index in
    let before = c.records.aliases.items in
    let left = flat_map f (names_in (drop (i + 1) records)) in
    c.records.invariant
    ∙ ap (λ rs. before ++ flat_map f (names_in rs)) (drop_next records i c.record-item.result c.records-test.true c.record-item.is)
    ∙ sym (append_assoc before (f c.record-item.result.0) left)
    ∙ ap (λ name. (before ++ f name) ++ left) (sym c.as_slice.ensures)
    ∙ ap (λ xs. xs ++ left) (sym c.in_ok-add_known.ensures)

pub returns : goal.returns
returns c =
    let f = known_alias c.args.codes.now in
    let before = c.records.aliases.items in
    sym (c.records.invariant
    ∙ ap (λ rs. before ++ flat_map f (names_in rs)) (none_left c.args.records.now c.records.record-index c.records-test.false)
    ∙ append-nil before)

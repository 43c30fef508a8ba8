use Rattle.std.proofs.Common.{◌∙◌, length, slice_set, ap, arith}
use Rattle.std.proofs.lemmas.List.{length-set}
use Rattle.kx_key_fields.proofs.Moving.{types_go, types_end}
use Rattle.kx_key_lists.proofs.Replaced.{taken_at, kept_at}
use Rattle.kx_key_fields.proofs.group_types.GroupTypes.merge.Goals as goal

pub types-preserved : goal.types-preserved
types-preserved c =
    let test = c.types-test.true in
    let size = c.len-place-end.ensures in
    let view = ap length c.other.view_is in
    let still = c.types.invariant.sized in
    types_go c.args.mode c.args.self.now c.args.other c.types.self c.types.later.items c.types.place c.take-name.result c.merge_type.new.self (slice_set c.types.later.items c.types.place c.take-name.new.self)
    c.requires c.types.invariant (omega (arith, test, size, view)) (taken_at c.types.later.items c.types.place c.take-name.result _ (omega (arith, test, size, view, still)) (c.take-name.ensures.value ∙ c.index_mut.ensures.value)) (length-set c.types.later.items c.types.place c.take-name.new.self)
    (λ k behind. kept_at c.types.later.items c.types.place c.take-name.new.self k behind) c.in_ok-merge_type.ensures.types c.in_ok-merge_type.ensures.long

pub returns : goal.returns
returns c =
    let test = c.types-test.false in
    let size = c.len-place-end.ensures in
    let view = ap length c.other.view_is in
    types_end c.args.mode c.args.self.now c.args.other c.types.self c.types.later.items c.types.place c.requires c.types.invariant (omega (arith, test, size, view))

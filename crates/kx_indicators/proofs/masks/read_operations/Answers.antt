use Rattle.std.proofs.Common.{◌<◌, ◌^◌, ap, subst, sym, unwrap_or, ◌∙◌}
use Rattle.std.specs.List.{flat_map}
use Rattle.kx_virtual_mods.specs.Masks.{joined}
use Rattle.kx_indicators.specs.IndicatorMapMasks.{operated, operation_faults, width}
use Rattle.kx_indicators.proofs.Bits.{joined_within}
use Rattle.kx_merge.proofs.Going.{none_blames, none_goes, reported}
use Rattle.kx_indicators.proofs.Going.{fold_goes}
use Rattle.kx_indicators.proofs.masks.read_operations.Goals as goal

pub operations-preserved : goal.operations-preserved
operations-preserved c =
    let kind = c.args.kind in
    let os = c.args.operations.now in
    let i = c.operations.operation-index in
    let o = c.operation-item.result in
    record {
      value = fold_goes (operated kind) c.args.before c.operations.mask c.joined-mask.result os i o c.operations-test.true c.operation-item.is (c.joined-mask.ensures ∙ ap (λ m. joined o.sign c.operations.mask (unwrap_or m 0)) c.in_ok-other.ensures.value) c.operations.invariant.value;
      within = subst (λ m. m < 2 ^ width kind) (sym c.joined-mask.ensures) (joined_within o.sign (width kind) c.operations.mask c.in_ok-other.other c.operations.invariant.within c.in_ok-other.ensures.within);
      faultless = none_goes (operation_faults c.args.file kind) os i o c.operations-test.true c.operation-item.is c.in_ok-other.ensures.faults.0 c.operations.invariant.faultless;
    }

pub returns-in_err-other-clause-faults : goal.returns-in_err-other-clause-faults
returns-in_err-other-clause-faults c =
    let faults = operation_faults c.args.file c.args.kind in
    reported c.from_residual.result (flat_map faults c.args.operations.now) c.in_err-other.field-0.0 c.from_residual.ensures.1
    (none_blames faults c.args.operations.now c.operations.operation-index c.operation-item.result c.in_err-other.field-0.0 c.operations-test.true c.operation-item.is c.operations.invariant.faultless c.in_err-other.ensures.faults.1)

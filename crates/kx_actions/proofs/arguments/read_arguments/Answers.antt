use Rattle.std.proofs.Common.{◌+◌, ap, drop, sym, ◌∙◌}
use Rattle.std.specs.List.{flat_map}
use Rattle.kx_actions.specs.Arguments.{argument_faults, argument_given}
use Rattle.kx_actions.specs.Settings.{last_settings}
use Rattle.kx_merge.proofs.Going.{none_blames, none_goes, reported}
use Rattle.kx_actions.proofs.Last.{last_goes}
use Rattle.kx_actions.proofs.arguments.read_arguments.Goals as goal

pub arguments-preserved : goal.arguments-preserved
arguments-preserved c =
    let gives = argument_given c.args.names.now.names c.args.kind in
    let faults = argument_faults c.args.file c.args.names.now.names c.args.kind in (
      last_goes gives c.args.defaults c.arguments.settings c.args.arguments.now c.arguments.placed-index c.placed-item.result c.in_ok-read_argument.field-0 c.arguments-test.true c.placed-item.is c.in_ok-read_argument.ensures.value c.arguments.invariant.0
          ∙ ap (λ s. last_settings gives s (drop (c.arguments.placed-index + 1) c.args.arguments.now)) (sym c.with-settings.ensures),
      none_goes faults c.args.arguments.now c.arguments.placed-index c.placed-item.result c.arguments-test.true c.placed-item.is c.in_ok-read_argument.ensures.faults.0 c.arguments.invariant.1,
    )

pub returns-in_err-read_argument-clause-faults : goal.returns-in_err-read_argument-clause-faults
returns-in_err-read_argument-clause-faults c =
    let faults = argument_faults c.args.file c.args.names.now.names c.args.kind in
    reported c.from_residual.result (flat_map faults c.args.arguments.now) c.in_err-read_argument.field-0.0 c.from_residual.ensures.1
    (none_blames faults c.args.arguments.now c.arguments.placed-index c.placed-item.result c.in_err-read_argument.field-0.0 c.arguments-test.true c.placed-item.is c.arguments.invariant.1 c.in_err-read_argument.ensures.faults.1)

use Rattle.std.proofs.Common.{◌≡◌, drop}
use Rattle.std.specs.List.{flat_map}
use Rattle.kx_actions.specs.Arguments.{argument_faults, argument_given}
use Rattle.kx_actions.specs.Settings.{last_settings}
use Rattle.kx_actions.proofs.arguments.read_arguments.Given as goal

abbrev pub invariant-arguments : goal.invariant-arguments
invariant-arguments l =
    (last_settings (argument_given l.names.names l.kind) l.fn.defaults l.arguments ≡ last_settings (argument_given l.names.names l.kind) l.settings (drop l.placed-index l.arguments))
    × (flat_map (argument_faults l.file l.names.names l.kind) l.arguments ≡ flat_map (argument_faults l.file l.names.names l.kind) (drop l.placed-index l.arguments))

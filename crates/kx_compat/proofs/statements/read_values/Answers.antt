use Rattle.std.proofs.Common.{◌+◌, ap, drop, sym, ◌∙◌}
use Rattle.std.specs.List.{flat_map}
use Rattle.kx_compat.specs.Giving.{last_values}
use Rattle.kx_compat.specs.Sections.{own_faults, own_value}
use Rattle.kx_merge.proofs.Going.{none_blames, none_goes, reported}
use Rattle.kx_compat.proofs.Lasting.{last_goes}
use Rattle.kx_compat.proofs.statements.read_values.Goals as goal

pub fields-preserved : goal.fields-preserved
fields-preserved c =
    let gives = own_value c.args.context.now.modifiers.now.names c.args.defaults.now in
    let faults = own_faults c.args.context.now.file c.args.context.now.modifiers.now.names in
    record {
      value = last_goes gives c.args.defaults.now.values c.fields.values c.args.fields.now c.fields.field-index c.field-item.result c.in_ok-read_own.field-0 c.fields-test.true c.field-item.is c.in_ok-read_own.ensures.value c.fields.invariant.value
          ∙ ap (λ v. last_values gives v (drop (c.fields.field-index + 1) c.args.fields.now)) (sym c.with-values.ensures);
      faultless = none_goes faults c.args.fields.now c.fields.field-index c.field-item.result c.fields-test.true c.field-item.is c.in_ok-read_own.ensures.faults.0 c.fields.invariant.faultless;
    }

pub returns-in_err-read_own-clause-faults : goal.returns-in_err-read_own-clause-faults
returns-in_err-read_own-clause-faults c =
    let faults = own_faults c.args.context.now.file c.args.context.now.modifiers.now.names in
    reported c.from_residual.result (flat_map faults c.args.fields.now) c.in_err-read_own.field-0.0 c.from_residual.ensures.1
    (none_blames faults c.args.fields.now c.fields.field-index c.field-item.result c.in_err-read_own.field-0.0 c.fields-test.true c.field-item.is c.fields.invariant.faultless c.in_err-read_own.ensures.faults.1)

use Rattle.kx_builder.proofs.Lighting.{cause_passed, indicators_length, indicators_step, name_fits, no_indicators}
use Rattle.kx_builder.proofs.indicator_maps.push_indicators.Goals as goal
use Rattle.kx_builder.specs.declared.indicator_maps.Indicator.{Indicator}
use Rattle.kx_tables.specs.RawTables.{content_of}

pub indicators-init : goal.indicators-init
indicators-init c = no_indicators (content_of c.args.parts.now) c.requires

pub indicators-preserved : goal.indicators-preserved
indicators-preserved c = indicators_step (content_of c.args.parts.now) c.args.indicators.now c.indicators.indicator-index _ (content_of c.indicators.parts) (content_of c.push_indicator.new.parts) c.indicators-test.true c.indicators.invariant c.in_ok-push_indicator.ensures.added

pub returns-in_err-push_indicator-clause-fault : goal.returns-in_err-push_indicator-clause-fault
returns-in_err-push_indicator-clause-fault c =
    cause_passed c.from_residual.result c.in_err-push_indicator.field-0.0 _ _ _ c.from_residual.ensures.1
    (name_fits (λ (d : Indicator). d.name.now) (content_of c.args.parts.now) (content_of c.indicators.parts) c.args.indicators.now c.indicators.indicator-index _ c.indicators-test.true (indicators_length (content_of c.args.parts.now) (content_of c.indicators.parts) c.args.indicators.now c.indicators.indicator-index c.indicators.invariant))
    c.in_err-push_indicator.ensures.fault

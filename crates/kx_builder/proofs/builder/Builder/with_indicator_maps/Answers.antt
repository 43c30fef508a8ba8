use Rattle.std.proofs.Common.{◌≡◌, Bor, List, ℕ, ap, map, refl, subst, sym, ◌∙◌}
use Rattle.kx_builder.proofs.Lighting.{cause_passed, group_names_fit, indicators_fit}
use Rattle.kx_builder.proofs.Lit.{indicator_maps_agree, tables_sound_with}
use Rattle.kx_builder.proofs.builder.Builder.with_indicator_maps.Goals as goal
use Rattle.kx_builder.specs.Agreement.{ShowsSame}
use Rattle.kx_builder.specs.IndicatorMaps.{indicator_of, keymap_with, with_group_names, with_indicators, with_indicator_maps}
use Rattle.kx_builder.specs.Placed.{content_of_resolved}
use Rattle.kx_builder.specs.Resolved.{keymap_of_resolved}
use Rattle.kx_tables.specs.Keymap.{keymap_of}
use Rattle.kx_tables.specs.RawTables.{content_of}
use Rattle.kx_tables.specs.Sound.{Sound}

pub returns-in_err-push_indicators-clause-fault : goal.returns-in_err-push_indicators-clause-fault
returns-in_err-push_indicators-clause-fault c =
    cause_passed c.from_residual.result c.in_err-push_indicators.field-0.0 _ _ _ c.from_residual.ensures.1
    (λ fit. indicators_fit (content_of c.self.inside.parts) (content_of_resolved c.args.self) c.args.indicators.now (c.self.invariant ∙ ap content_of_resolved c.self.view_is) fit.0)
    c.in_err-push_indicators.ensures.fault

pub returns-in_err-push_group_names-clause-fault : goal.returns-in_err-push_group_names-clause-fault
returns-in_err-push_group_names-clause-fault c =
    cause_passed c.from_residual-in_err-push_group_names.result c.in_err-push_group_names.field-0.0 _ _ _ c.from_residual-in_err-push_group_names.ensures.1
    (λ fit. group_names_fit (content_of c.push_indicators.new.parts) (with_indicators (content_of_resolved c.args.self) (map indicator_of c.args.indicators.now)) c.args.group_names.now
    (c.in_ok-push_indicators.ensures.added ∙ ap (λ b. with_indicators b (map indicator_of c.args.indicators.now)) (c.self.invariant ∙ ap content_of_resolved c.self.view_is)) fit.1)
    c.in_err-push_group_names.ensures.fault

lit : (c : goal.In_ok-push_group_names) → content_of c.push_group_names.new.parts ≡ with_indicator_maps (content_of_resolved c.args.self) (map indicator_of c.args.indicators.now) (map (λ (g : Bor (List ℕ)). g.now) c.args.group_names.now)
lit c =
    c.in_ok-push_group_names.ensures.added
    ∙ ap (λ b. with_group_names b (map (λ (g : Bor (List ℕ)). g.now) c.args.group_names.now))
    (c.in_ok-push_indicators.ensures.added ∙ ap (λ b. with_indicators b (map indicator_of c.args.indicators.now)) (c.self.invariant ∙ ap content_of_resolved c.self.view_is))

pub returns-clause-content : goal.returns-clause-content
returns-clause-content c = lit c

pub returns-clause-agrees : goal.returns-clause-agrees
returns-clause-agrees c = λ whole.
    subst (λ b. ShowsSame (keymap_of b) (keymap_with (keymap_of_resolved c.args.self) (map indicator_of c.args.indicators.now))) (sym (lit c))
    (indicator_maps_agree (content_of_resolved c.args.self) c.args.self (map indicator_of c.args.indicators.now) (map (λ (g : Bor (List ℕ)). g.now) c.args.group_names.now) refl whole)

pub returns-clause-sound : goal.returns-clause-sound
returns-clause-sound c = λ valid indicator_maps.
    subst Sound (sym (lit c))
    (tables_sound_with (content_of_resolved c.args.self) c.args.self (map indicator_of c.args.indicators.now) (map (λ (g : Bor (List ℕ)). g.now) c.args.group_names.now) refl valid indicator_maps)

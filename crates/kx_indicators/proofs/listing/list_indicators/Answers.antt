use Rattle.std.proofs.Common.{ap, subst, sym, ◌∙◌}
use Rattle.kx_include.specs.Shared.{expanded_body}
use Rattle.kx_lex.specs.declared.fault.Fault.TheVariants.{Memory}
use Rattle.kx_virtual_mods.specs.Counted.{names_behind, statements_of}
use Rattle.kx_indicators.specs.Blocks.{indicator_map_names}
use Rattle.kx_indicators.specs.Bounds.{NamesAreValid}
use Rattle.kx_indicators.specs.Meaning.{indicator_maps_faults}
use Rattle.kx_merge.proofs.Going.{reported_or_out}
use Rattle.kx_indicators.proofs.Going.{memory_beside}
use Rattle.kx_indicators.proofs.Longest.{names_valid}
use Rattle.kx_indicators.proofs.listing.list_indicators.Goals as goal

pub returns-in_err-shown-clause-faults : goal.returns-in_err-shown-clause-faults
returns-in_err-shown-clause-faults c =
    let faults = indicator_maps_faults c.args.names.now.names (expanded_body c.args.expansion.now) in
    reported_or_out c.from_residual-in_err-shown.result faults c.in_err-shown.field-0.0 c.from_residual-in_err-shown.ensures.1 (memory_beside Memory faults c.in_err-shown.field-0.0 c.in_err-shown.ensures.err)

pub of-requires-clause-names : goal.of-requires-clause-names
of-requires-clause-names c =
    let body = expanded_body c.args.expansion.now in
    let indicator_maps = c.in_ok-indicator_maps.indicator_maps in
    let named = c.in_ok-indicator_maps.ensures.names ∙ ap (λ ks. names_behind indicator_map_names ks (statements_of body)) c.new.ensures in
    names_valid indicator_maps c.args.names.now.names body indicator_maps named c.in_ok-indicator_maps.ensures.few c.in_ok-merged.ensures.faults.0

pub returns-clause-valid : goal.returns-clause-valid
returns-clause-valid c =
    let body = expanded_body c.args.expansion.now in
    let indicator_maps = c.in_ok-indicator_maps.indicator_maps in
    let named = c.in_ok-indicator_maps.ensures.names ∙ ap (λ ks. names_behind indicator_map_names ks (statements_of body)) c.new.ensures in
    subst NamesAreValid (sym (ap (λ r. r.names) c.of.ensures)) (names_valid indicator_maps c.args.names.now.names body indicator_maps named c.in_ok-indicator_maps.ensures.few c.in_ok-merged.ensures.faults.0)

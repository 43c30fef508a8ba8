use Rattle.std.proofs.Common.{◌≡◌, ◌+◌, Some, ap, length, refl, slice_get, sym, ◌∙◌}
use Rattle.std.proofs.lemmas.Option.{slice_get_read}
use Rattle.kx_print.proofs.Rows.{numbered-more}
use Rattle.kx_print.proofs.Writing.{◌⨟◌, rewritten}
use Rattle.kx_client_text.specs.Written.{indicator_line}
use Rattle.kx_client_text.proofs.keycodes.write_indicator_names.Goals as goal

pub names-preserved : goal.names-preserved
names-preserved g c =
    let told = c.indicators-names.result.now in
    let names = c.args.left.now.indicators in
    let index = c.names.index in
    let name = c.index-names-index.result in
    let at : slice_get names index ≡ Some name = ap (λ ns. slice_get ns index) (sym c.indicators-names.ensures.names) ∙ slice_get_read told (length told) index name refl c.names-test.true c.index-names-index.is in
    rewritten (sym (numbered-more indicator_line 1 names index name at))
    (c.names.invariant ⨟ rewritten (ap (indicator_line (index + 1)) c.as_slice.ensures) c.write_indicator_name.ensures)

use Rattle.std.proofs.Common.{◌∙◌, ◌++◌, ap, codes, map}
use Rattle.kx_print.specs.Phrases.{joined}
use Rattle.kx_print.specs.Printed.{bracketed, fields_of, on_new_line}
use Rattle.kx_print.proofs.Rows.{length-part}
use Rattle.kx_print.proofs.Writing.{◌⨟◌, rewritten}
use Rattle.kx_client_text.specs.Written.{repeat_field}
use Rattle.kx_client_text.proofs.Fields.{behind_first, comma_leads}
use Rattle.kx_client_text.proofs.symbols.write_key.Goals as goal

pub returns : goal.returns
returns g c =
    let content = g.T.Rows.content c.args.tables.now in
    let row = c.args.key.row in
    let first = repeat_field c.args.key.repeats in
    let fields = fields_of content row in
    let count = length-part content.groups row.first_group row.groups c.requires.within in
    c.write.ensures
    ⨟ rewritten (ap bracketed c.requires.name) c.write_key_word.ensures
    ⨟ c.write-2.ensures
    ⨟ rewritten (ap (λ comma. on_new_line first ++ (comma ++ joined (codes ",") (map on_new_line fields))) (comma_leads content row count) ∙ behind_first first fields)
    (c.write_repeat.ensures ⨟ c.write_comma.ensures ⨟ c.write_fields.ensures)
    ⨟ c.write-3.ensures

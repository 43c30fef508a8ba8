use Rattle.std.proofs.Common.{◌++◌, ◌+◌, ◌∙◌, codes, decimal, sym, ap, append-nil}
use Rattle.std.specs.List.{flat_map}
use Rattle.kx_tables.specs.declared.rows.Range.{Range}
use Rattle.kx_print.specs.Printed.{on_new_line, range_fields}
use Rattle.kx_print.proofs.Writing.{◌⨟◌, rewritten}
use Rattle.kx_print.proofs.fields.write_range.Goals as goal

pub returns-in-Clamp : goal.returns-in-Clamp
returns-in-Clamp g c =
    let text = λ (range : Range). flat_map (λ field. c.args.before.now ++ on_new_line field) (range_fields range) in
    rewritten (sym (ap text c.in-Clamp.is ∙ append-nil (c.args.before.now ++ codes "\ngroupsClamp"))) (c.write.ensures ⨟ c.write-in-Clamp.ensures)

pub returns-in-Redirect : goal.returns-in-Redirect
returns-in-Redirect g c =
    let text = λ (range : Range). flat_map (λ field. c.args.before.now ++ on_new_line field) (range_fields range) in
    rewritten (sym (ap text c.in-Redirect.is ∙ append-nil (c.args.before.now ++ (codes "\ngroupsRedirect= " ++ decimal (c.in-Redirect.group + 1)))))
    (c.write-in-Redirect.ensures ⨟ c.write-in-Redirect-2.ensures ⨟ rewritten (ap (λ n. decimal (n + 1)) c.from.ensures) c.write_number.ensures)

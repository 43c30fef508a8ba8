use Rattle.std.proofs.Common.{◌∙◌, sym}
use Rattle.std.proofs.lemmas.Bool.{eqb-true}
use Rattle.kx_parse.proofs.PassedSections.{ends-closed, ends-nothing, no-bytes}
use Rattle.kx_parse.proofs.outline.end_sections.Goals as goal

pub returns-in-Some : goal.returns-in-Some
returns-in-Some c = λ ended. ends-closed c.in-Some.ensures.passes

pub returns-in-None : goal.returns-in-None
returns-in-None c = λ ended. ends-nothing c.args.bytes.now (no-bytes c.args.bytes.now (eqb-true _ _ (sym c.is_empty.ensures ∙ ended)))

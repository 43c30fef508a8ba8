use Rattle.std.proofs.Common.{ℕ, subst, sym}
use Rattle.kx_merge.specs.Records.{IsOffered}
use Rattle.kx_symbols.specs.Keys.{KeyContent, key_form, key_offer}
use Rattle.kx_symbols.specs.declared.cells.Cell.{Cell}
use Rattle.kx_symbols.specs.declared.cells.CellValue.{CellValue}
use Rattle.kx_symbols.proofs.Given.{statement_offered}
use Rattle.kx_symbols.proofs.keys.read_content.Goals as goal

pub returns-clause-offered : goal.returns-clause-offered
returns-clause-offered c = λ mode code.
    subst (λ key. IsOffered {K = ℕ} {C = Cell} {V = CellValue} {R = KeyContent} mode key_form code key (key_offer c.args.known.now c.args.fields.now mode code)) (sym c.of.ensures)
    (statement_offered c.args.known.now c.args.fields.now c.in_ok-lists.lists c.in_ok-settings.settings c.in_ok-lists.ensures.value c.in_ok-settings.ensures.cells mode code)

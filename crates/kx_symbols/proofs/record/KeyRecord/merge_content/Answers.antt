use Rattle.std.proofs.Common.{◌≡◌, subst}
use Rattle.kx_merge.specs.Offers.{merged_value}
use Rattle.kx_symbols.specs.Keys.{KeyContent, cell_in}
use Rattle.kx_symbols.specs.declared.cells.Cell.{Cell}
use Rattle.kx_symbols.proofs.Contents.{joined_cells}
use Rattle.kx_symbols.proofs.record.KeyRecord.merge_content.Goals as goal

pub returns-clause-cells : goal.returns-clause-cells
returns-clause-cells c =
    let old : KeyContent = record { symbols = c.self.inside.symbols; actions = c.self.inside.actions; settings = c.self.inside.settings } in
    let new : KeyContent = record { symbols = c.merge.new.self; actions = c.merge-2.new.self; settings = c.merge-3.new.self } in
    let other : KeyContent = record { symbols = c.other.inside.symbols; actions = c.other.inside.actions; settings = c.other.inside.settings } in
    subst (λ k. (x : Cell) → cell_in new x ≡ merged_value c.args.mode (cell_in k x) (cell_in c.args.other x)) c.self.view_is
    (subst (λ k. (x : Cell) → cell_in new x ≡ merged_value c.args.mode (cell_in old x) (cell_in k x)) c.other.view_is
    (joined_cells c.args.mode old new other c.in_ok-merge.ensures.cells c.in_ok-merge-2.ensures.cells c.in_ok-merge-3.ensures))

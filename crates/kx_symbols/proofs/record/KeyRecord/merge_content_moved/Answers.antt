use Rattle.std.proofs.Common.{◌≡◌, subst}
use Rattle.kx_merge.specs.Moved.{moved_value}
use Rattle.kx_merge.specs.Offers.{merged_value}
use Rattle.kx_symbols.specs.Keys.{KeyContent, cell_in, key_moves}
use Rattle.kx_symbols.specs.declared.cells.Cell.{Cell}
use Rattle.kx_symbols.proofs.Contents.{moved_cells}
use Rattle.kx_symbols.proofs.record.KeyRecord.merge_content_moved.Goals as goal

pub returns-clause-cells : goal.returns-clause-cells
returns-clause-cells c =
    let old : KeyContent = record { symbols = c.self.inside.symbols; actions = c.self.inside.actions; settings = c.self.inside.settings } in
    let new : KeyContent = record { symbols = c.merge_moved.new.self; actions = c.merge_moved-2.new.self; settings = c.merge_moved-3.new.self } in
    let other : KeyContent = record { symbols = c.other.inside.symbols; actions = c.other.inside.actions; settings = c.other.inside.settings } in
    subst (λ k. (x : Cell) → cell_in new x ≡ merged_value c.args.mode (cell_in k x) (moved_value key_moves c.args.group (cell_in c.args.other.now) x)) c.self.view_is
    (subst (λ k. (x : Cell) → cell_in new x ≡ merged_value c.args.mode (cell_in old x) (moved_value key_moves c.args.group (cell_in k) x)) c.other.view_is
    (moved_cells c.args.mode c.args.group old new other c.in_ok-merge_moved.ensures.cells c.in_ok-merge_moved-2.ensures.cells c.in_ok-merge_moved-3.ensures))

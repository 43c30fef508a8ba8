use Rattle.std.proofs.Common.{arith, ap, sym, ◌<◌}
use Rattle.kx_image.specs.Records.{cell_of}
use Rattle.kx_image.specs.Shape.{cells_start, group_count, header_of}
use Rattle.kx_image.proofs.Reading.{in_rows, row_there}
use Rattle.kx_image.proofs.layout.LayoutRows.cell_row.Goals as goal

pub record-requires : goal.record-requires
record-requires c =
    let low : c.args.index < (header_of c.self.inside.bytes.now).cells = in_rows cell_of 12 (header_of c.self.inside.bytes.now).cells (cells_start (header_of c.self.inside.bytes.now) (group_count (header_of c.self.inside.bytes.now) c.self.inside.bytes.now)) c.self.inside.bytes.now c.args.self.now.cells c.args.index (sym (ap (λ k. k.cells) c.self.view_is)) c.requires in
    omega (arith, c.self.invariant.end, ap (λ t. t.cells) c.self.invariant.starts_are, low)

pub returns : goal.returns
returns c =
    row_there cell_of 12 (header_of c.self.inside.bytes.now).cells (cells_start (header_of c.self.inside.bytes.now) (group_count (header_of c.self.inside.bytes.now) c.self.inside.bytes.now)) c.self.inside.bytes.now c.args.self.now.cells c.args.index _ c.record.result.now c.cell_at.result (sym (ap (λ k. k.cells) c.self.view_is)) c.requires
    (omega (arith, ap (λ t. t.cells) c.self.invariant.starts_are)) c.record.ensures.value c.cell_at.ensures

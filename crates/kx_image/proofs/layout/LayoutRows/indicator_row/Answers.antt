use Rattle.std.proofs.Common.{arith, ap, sym, ◌<◌}
use Rattle.kx_image.specs.Records.{indicator_of}
use Rattle.kx_image.specs.Shape.{group_count, header_of, indicators_start}
use Rattle.kx_image.proofs.Reading.{in_rows, row_there}
use Rattle.kx_image.proofs.layout.LayoutRows.indicator_row.Goals as goal

pub record-requires : goal.record-requires
record-requires c =
    let low : c.args.index < (header_of c.self.inside.bytes.now).indicators = in_rows indicator_of 16 (header_of c.self.inside.bytes.now).indicators (indicators_start (header_of c.self.inside.bytes.now) (group_count (header_of c.self.inside.bytes.now) c.self.inside.bytes.now)) c.self.inside.bytes.now c.args.self.now.indicators c.args.index (sym (ap (λ k. k.indicators) c.self.view_is)) c.requires in
    omega (arith, c.self.invariant.end, ap (λ t. t.indicators) c.self.invariant.starts_are, low, c.from.ensures)

pub returns : goal.returns
returns c =
    row_there indicator_of 16 (header_of c.self.inside.bytes.now).indicators (indicators_start (header_of c.self.inside.bytes.now) (group_count (header_of c.self.inside.bytes.now) c.self.inside.bytes.now)) c.self.inside.bytes.now c.args.self.now.indicators c.args.index _ c.record.result.now c.indicator_at.result (sym (ap (λ k. k.indicators) c.self.view_is)) c.requires
    (omega (arith, ap (λ t. t.indicators) c.self.invariant.starts_are, c.from.ensures)) c.record.ensures.value c.indicator_at.ensures

use Rattle.std.proofs.Common.{arith, ap, sym, ◌<◌}
use Rattle.kx_image.specs.Records.{group_of}
use Rattle.kx_image.specs.Shape.{group_count, groups_start, header_of}
use Rattle.kx_image.proofs.Reading.{in_rows, row_there}
use Rattle.kx_image.proofs.layout.LayoutRows.group_row.Goals as goal

pub record-requires : goal.record-requires
record-requires c =
    let low : c.args.index < (group_count (header_of c.self.inside.bytes.now) c.self.inside.bytes.now) = in_rows group_of 8 (group_count (header_of c.self.inside.bytes.now) c.self.inside.bytes.now) (groups_start (header_of c.self.inside.bytes.now)) c.self.inside.bytes.now c.args.self.now.groups c.args.index (sym (ap (λ k. k.groups) c.self.view_is)) c.requires in
    omega (arith, c.self.invariant.end, ap (λ t. t.groups) c.self.invariant.starts_are, low)

pub returns : goal.returns
returns c =
    row_there group_of 8 (group_count (header_of c.self.inside.bytes.now) c.self.inside.bytes.now) (groups_start (header_of c.self.inside.bytes.now)) c.self.inside.bytes.now c.args.self.now.groups c.args.index _ c.record.result.now c.group_at.result (sym (ap (λ k. k.groups) c.self.view_is)) c.requires
    (omega (arith, ap (λ t. t.groups) c.self.invariant.starts_are)) c.record.ensures.value c.group_at.ensures

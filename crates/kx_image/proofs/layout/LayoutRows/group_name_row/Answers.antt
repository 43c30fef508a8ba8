use Rattle.std.proofs.Common.{arith, ap, sym, ◌<◌}
use Rattle.kx_image.specs.Records.{group_name_of}
use Rattle.kx_image.specs.Shape.{group_count, group_names_start, header_of}
use Rattle.kx_image.proofs.Reading.{in_rows, row_there}
use Rattle.kx_image.proofs.layout.LayoutRows.group_name_row.Goals as goal

pub record-requires : goal.record-requires
record-requires c =
    let low : c.args.index < (header_of c.self.inside.bytes.now).group_names = in_rows group_name_of 8 (header_of c.self.inside.bytes.now).group_names (group_names_start (header_of c.self.inside.bytes.now) (group_count (header_of c.self.inside.bytes.now) c.self.inside.bytes.now)) c.self.inside.bytes.now c.args.self.now.group_names c.args.index (sym (ap (λ k. k.group_names) c.self.view_is)) c.requires in
    omega (arith, c.self.invariant.end, ap (λ t. t.group_names) c.self.invariant.starts_are, low, c.from.ensures)

pub returns : goal.returns
returns c =
    row_there group_name_of 8 (header_of c.self.inside.bytes.now).group_names (group_names_start (header_of c.self.inside.bytes.now) (group_count (header_of c.self.inside.bytes.now) c.self.inside.bytes.now)) c.self.inside.bytes.now c.args.self.now.group_names c.args.index _ c.record.result.now c.group_name_at.result (sym (ap (λ k. k.group_names) c.self.view_is)) c.requires
    (omega (arith, ap (λ t. t.group_names) c.self.invariant.starts_are, c.from.ensures)) c.record.ensures.value c.group_name_at.ensures

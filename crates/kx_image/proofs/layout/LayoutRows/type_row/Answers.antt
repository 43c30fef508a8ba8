use Rattle.std.proofs.Common.{arith, ap, sym, ◌<◌}
use Rattle.kx_image.specs.Records.{type_of}
use Rattle.kx_image.specs.Shape.{header_of, header_size}
use Rattle.kx_image.proofs.Reading.{in_rows, row_there}
use Rattle.kx_image.proofs.layout.LayoutRows.type_row.Goals as goal

pub record-requires : goal.record-requires
record-requires c =
    let low : c.args.index < (header_of c.self.inside.bytes.now).types = in_rows type_of 16 (header_of c.self.inside.bytes.now).types (header_size (header_of c.self.inside.bytes.now).version) c.self.inside.bytes.now c.args.self.now.types c.args.index (sym (ap (λ k. k.types) c.self.view_is)) c.requires in
    omega (arith, c.self.invariant.end, ap (λ t. t.types) c.self.invariant.starts_are, low, c.from.ensures)

pub returns : goal.returns
returns c =
    row_there type_of 16 (header_of c.self.inside.bytes.now).types (header_size (header_of c.self.inside.bytes.now).version) c.self.inside.bytes.now c.args.self.now.types c.args.index _ c.record.result.now c.type_at.result (sym (ap (λ k. k.types) c.self.view_is)) c.requires
    (omega (arith, ap (λ t. t.types) c.self.invariant.starts_are, c.from.ensures)) c.record.ensures.value c.type_at.ensures

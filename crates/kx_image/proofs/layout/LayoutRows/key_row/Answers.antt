use Rattle.std.proofs.Common.{arith, ap, sym, ◌<◌}
use Rattle.kx_image.specs.Records.{key_of}
use Rattle.kx_image.specs.Shape.{header_of, keys_start}
use Rattle.kx_image.proofs.Reading.{in_rows, row_there}
use Rattle.kx_image.proofs.layout.LayoutRows.key_row.Goals as goal

pub record-requires : goal.record-requires
record-requires c =
    let low : c.args.index < (header_of c.self.inside.bytes.now).keys = in_rows key_of 16 (header_of c.self.inside.bytes.now).keys (keys_start (header_of c.self.inside.bytes.now)) c.self.inside.bytes.now c.args.self.now.keys c.args.index (sym (ap (λ k. k.keys) c.self.view_is)) c.requires in
    omega (arith, c.self.invariant.end, ap (λ t. t.keys) c.self.invariant.starts_are, low, c.from.ensures)

pub returns : goal.returns
returns c =
    row_there key_of 16 (header_of c.self.inside.bytes.now).keys (keys_start (header_of c.self.inside.bytes.now)) c.self.inside.bytes.now c.args.self.now.keys c.args.index _ c.record.result.now c.key_at.result (sym (ap (λ k. k.keys) c.self.view_is)) c.requires
    (omega (arith, ap (λ t. t.keys) c.self.invariant.starts_are, c.from.ensures)) c.record.ensures.value c.key_at.ensures

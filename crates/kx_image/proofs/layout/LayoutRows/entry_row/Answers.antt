use Rattle.std.proofs.Common.{arith, ap, sym, ◌<◌}
use Rattle.kx_image.specs.Records.{entry_of}
use Rattle.kx_image.specs.Shape.{entries_start, header_of}
use Rattle.kx_image.proofs.Reading.{in_rows, row_there}
use Rattle.kx_image.proofs.layout.LayoutRows.entry_row.Goals as goal

pub record-requires : goal.record-requires
record-requires c =
    let low : c.args.index < (header_of c.self.inside.bytes.now).entries = in_rows entry_of 4 (header_of c.self.inside.bytes.now).entries (entries_start (header_of c.self.inside.bytes.now)) c.self.inside.bytes.now c.args.self.now.entries c.args.index (sym (ap (λ k. k.entries) c.self.view_is)) c.requires in
    omega (arith, c.self.invariant.end, ap (λ t. t.entries) c.self.invariant.starts_are, low)

pub returns : goal.returns
returns c =
    row_there entry_of 4 (header_of c.self.inside.bytes.now).entries (entries_start (header_of c.self.inside.bytes.now)) c.self.inside.bytes.now c.args.self.now.entries c.args.index _ c.record.result.now c.entry_at.result (sym (ap (λ k. k.entries) c.self.view_is)) c.requires
    (omega (arith, ap (λ t. t.entries) c.self.invariant.starts_are)) c.record.ensures.value c.entry_at.ensures

use Rattle.std.proofs.Common.{arith, ap, sym, ◌<◌}
use Rattle.kx_image.specs.Records.{keysym_of}
use Rattle.kx_image.specs.Shape.{group_count, header_of, keysyms_start}
use Rattle.kx_image.proofs.Reading.{in_rows, row_there}
use Rattle.kx_image.proofs.layout.LayoutRows.keysym.Goals as goal

pub record-requires : goal.record-requires
record-requires c =
    let low : c.args.index < (header_of c.self.inside.bytes.now).keysyms = in_rows keysym_of 4 (header_of c.self.inside.bytes.now).keysyms (keysyms_start (header_of c.self.inside.bytes.now) (group_count (header_of c.self.inside.bytes.now) c.self.inside.bytes.now)) c.self.inside.bytes.now c.args.self.now.keysyms c.args.index (sym (ap (λ k. k.keysyms) c.self.view_is)) c.requires in
    omega (arith, c.self.invariant.end, ap (λ t. t.keysyms) c.self.invariant.starts_are, low)

pub returns : goal.returns
returns c =
    row_there keysym_of 4 (header_of c.self.inside.bytes.now).keysyms (keysyms_start (header_of c.self.inside.bytes.now) (group_count (header_of c.self.inside.bytes.now) c.self.inside.bytes.now)) c.self.inside.bytes.now c.args.self.now.keysyms c.args.index _ c.record.result.now c.keysym_at.result (sym (ap (λ k. k.keysyms) c.self.view_is)) c.requires
    (omega (arith, ap (λ t. t.keysyms) c.self.invariant.starts_are)) c.record.ensures.value c.keysym_at.ensures

use Rattle.std.proofs.Common.{ap, ◌∙◌, ◌≡◌}
use Rattle.kx_tables.specs.declared.check.RecordKind.TheVariants.{Keysym}
use Rattle.kx_image.specs.Image.{IsCanonical}
use Rattle.kx_image.specs.Records.{keysym_bytes, keysym_of}
use Rattle.kx_image.specs.Shape.{header_of, group_count, keysyms_start}
use Rattle.kx_image.specs.declared.header.Header.{Header}
use Rattle.kx_image.proofs.Garbling.{table_told, garbled_fault}
use Rattle.kx_image.proofs.canonical.check_keysyms.Goals as goal

pub returns : goal.returns
returns c =
    let count_is : c.args.header.keysyms ≡ (header_of c.args.bytes.now).keysyms = (ap (λ k. k.keysyms) c.requires.header) in
    let start_is : c.of-start.result.keysyms ≡ (keysyms_start (header_of c.args.bytes.now) (group_count (header_of c.args.bytes.now) c.args.bytes.now)) = ap (λ t. t.keysyms) c.of-start.ensures ∙ (ap (λ (h : Header). keysyms_start h c.args.groups) c.requires.header ∙ ap (keysyms_start (header_of c.args.bytes.now)) c.requires.groups) in
    record {
      ok = table_told (IsCanonical keysym_bytes keysym_of) 4 c.args.header.keysyms c.of-start.result.keysyms (header_of c.args.bytes.now).keysyms (keysyms_start (header_of c.args.bytes.now) (group_count (header_of c.args.bytes.now) c.args.bytes.now)) c.args.bytes.now c.check_table.result count_is start_is c.check_table.ensures.ok;
      fault = garbled_fault keysym_bytes keysym_of Keysym 4 c.args.header.keysyms c.of-start.result.keysyms (header_of c.args.bytes.now).keysyms (keysyms_start (header_of c.args.bytes.now) (group_count (header_of c.args.bytes.now) c.args.bytes.now)) c.args.bytes.now c.check_table.result c.requires.whole (λ i g. g) count_is start_is c.check_table.ensures.garbled;
    }

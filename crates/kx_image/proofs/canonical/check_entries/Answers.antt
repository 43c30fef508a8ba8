use Rattle.std.proofs.Common.{ap, ◌∙◌, ◌≡◌}
use Rattle.kx_tables.specs.declared.check.RecordKind.TheVariants.{Entry}
use Rattle.kx_image.specs.Image.{IsCanonical}
use Rattle.kx_image.specs.Records.{entry_bytes, entry_of}
use Rattle.kx_image.specs.Shape.{header_of, entries_start}
use Rattle.kx_image.proofs.Garbling.{table_told, garbled_fault}
use Rattle.kx_image.proofs.canonical.check_entries.Goals as goal

pub returns : goal.returns
returns c =
    let count_is : c.args.header.entries ≡ (header_of c.args.bytes.now).entries = (ap (λ k. k.entries) c.requires.header) in
    let start_is : c.of-start.result.entries ≡ (entries_start (header_of c.args.bytes.now)) = ap (λ t. t.entries) c.of-start.ensures ∙ (ap entries_start c.requires.header) in
    record {
      ok = table_told (IsCanonical entry_bytes entry_of) 4 c.args.header.entries c.of-start.result.entries (header_of c.args.bytes.now).entries (entries_start (header_of c.args.bytes.now)) c.args.bytes.now c.check_table.result count_is start_is c.check_table.ensures.ok;
      fault = garbled_fault entry_bytes entry_of Entry 4 c.args.header.entries c.of-start.result.entries (header_of c.args.bytes.now).entries (entries_start (header_of c.args.bytes.now)) c.args.bytes.now c.check_table.result c.requires.whole (λ i g. g) count_is start_is c.check_table.ensures.garbled;
    }

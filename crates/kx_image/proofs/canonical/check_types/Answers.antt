use Rattle.std.proofs.Common.{ap, ◌∙◌, ◌≡◌}
use Rattle.kx_tables.specs.declared.check.RecordKind.TheVariants.{KeyType}
use Rattle.kx_image.specs.Image.{IsCanonical}
use Rattle.kx_image.specs.Records.{type_bytes, type_of}
use Rattle.kx_image.specs.Shape.{header_of, header_size}
use Rattle.kx_image.specs.declared.header.Header.{Header}
use Rattle.kx_image.proofs.Garbling.{table_told, garbled_fault}
use Rattle.kx_image.proofs.canonical.check_types.Goals as goal

pub returns : goal.returns
returns c =
    let count_is : c.from.result ≡ (header_of c.args.bytes.now).types = (c.from.ensures ∙ ap (λ k. k.types) c.requires.header) in
    let start_is : c.of-start.result.types ≡ (header_size (header_of c.args.bytes.now).version) = ap (λ t. t.types) c.of-start.ensures ∙ (ap (λ (h : Header). header_size h.version) c.requires.header) in
    record {
      ok = table_told (IsCanonical type_bytes type_of) 16 c.from.result c.of-start.result.types (header_of c.args.bytes.now).types (header_size (header_of c.args.bytes.now).version) c.args.bytes.now c.check_table.result count_is start_is c.check_table.ensures.ok;
      fault = garbled_fault type_bytes type_of KeyType 16 c.from.result c.of-start.result.types (header_of c.args.bytes.now).types (header_size (header_of c.args.bytes.now).version) c.args.bytes.now c.check_table.result c.requires.whole (λ i g. g) count_is start_is c.check_table.ensures.garbled;
    }

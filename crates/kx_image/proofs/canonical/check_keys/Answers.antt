use Rattle.std.proofs.Common.{ap, ◌∙◌, ◌≡◌}
use Rattle.kx_tables.specs.declared.check.RecordKind.TheVariants.{Key}
use Rattle.kx_image.specs.Image.{IsCanonical}
use Rattle.kx_image.specs.Records.{key_bytes, key_of}
use Rattle.kx_image.specs.Shape.{header_of, keys_start}
use Rattle.kx_image.proofs.Garbling.{table_told, garbled_fault}
use Rattle.kx_image.proofs.canonical.check_keys.Goals as goal

pub returns : goal.returns
returns c =
    let count_is : c.from.result ≡ (header_of c.args.bytes.now).keys = (c.from.ensures ∙ ap (λ k. k.keys) c.requires.header) in
    let start_is : c.of-start.result.keys ≡ (keys_start (header_of c.args.bytes.now)) = ap (λ t. t.keys) c.of-start.ensures ∙ (ap keys_start c.requires.header) in
    record {
      ok = table_told (IsCanonical key_bytes key_of) 16 c.from.result c.of-start.result.keys (header_of c.args.bytes.now).keys (keys_start (header_of c.args.bytes.now)) c.args.bytes.now c.check_table.result count_is start_is c.check_table.ensures.ok;
      fault = garbled_fault key_bytes key_of Key 16 c.from.result c.of-start.result.keys (header_of c.args.bytes.now).keys (keys_start (header_of c.args.bytes.now)) c.args.bytes.now c.check_table.result c.requires.whole (λ i g. g) count_is start_is c.check_table.ensures.garbled;
    }

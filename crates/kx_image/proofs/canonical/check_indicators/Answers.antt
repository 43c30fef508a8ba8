use Rattle.std.proofs.Common.{ap, ◌∙◌, ◌≡◌}
use Rattle.kx_tables.specs.declared.check.RecordKind.TheVariants.{Indicator}
use Rattle.kx_image.specs.Image.{IsCanonical}
use Rattle.kx_image.specs.Records.{indicator_bytes, indicator_of}
use Rattle.kx_image.specs.Shape.{header_of, group_count, indicators_start}
use Rattle.kx_image.specs.declared.header.Header.{Header}
use Rattle.kx_image.proofs.Garbling.{table_told, garbled_fault}
use Rattle.kx_image.proofs.canonical.check_indicators.Goals as goal

pub returns : goal.returns
returns c =
    let count_is : c.from.result ≡ (header_of c.args.bytes.now).indicators = (c.from.ensures ∙ ap (λ k. k.indicators) c.requires.header) in
    let start_is : c.of-start.result.indicators ≡ (indicators_start (header_of c.args.bytes.now) (group_count (header_of c.args.bytes.now) c.args.bytes.now)) = ap (λ t. t.indicators) c.of-start.ensures ∙ (ap (λ (h : Header). indicators_start h c.args.groups) c.requires.header ∙ ap (indicators_start (header_of c.args.bytes.now)) c.requires.groups) in
    record {
      ok = table_told (IsCanonical indicator_bytes indicator_of) 16 c.from.result c.of-start.result.indicators (header_of c.args.bytes.now).indicators (indicators_start (header_of c.args.bytes.now) (group_count (header_of c.args.bytes.now) c.args.bytes.now)) c.args.bytes.now c.check_table.result count_is start_is c.check_table.ensures.ok;
      fault = garbled_fault indicator_bytes indicator_of Indicator 16 c.from.result c.of-start.result.indicators (header_of c.args.bytes.now).indicators (indicators_start (header_of c.args.bytes.now) (group_count (header_of c.args.bytes.now) c.args.bytes.now)) c.args.bytes.now c.check_table.result c.requires.whole (λ i g. g) count_is start_is c.check_table.ensures.garbled;
    }

use Rattle.std.proofs.Common.{ap, ◌∙◌, ◌≡◌}
use Rattle.kx_tables.specs.declared.check.RecordKind.TheVariants.{GroupName}
use Rattle.kx_image.specs.Image.{IsCanonical}
use Rattle.kx_image.specs.Records.{group_name_bytes, group_name_of}
use Rattle.kx_image.specs.Shape.{header_of, group_count, group_names_start}
use Rattle.kx_image.specs.declared.header.Header.{Header}
use Rattle.kx_image.proofs.Garbling.{table_told, garbled_fault}
use Rattle.kx_image.proofs.canonical.check_group_names.Goals as goal

pub returns : goal.returns
returns c =
    let count_is : c.from.result ≡ (header_of c.args.bytes.now).group_names = (c.from.ensures ∙ ap (λ k. k.group_names) c.requires.header) in
    let start_is : c.of-start.result.group_names ≡ (group_names_start (header_of c.args.bytes.now) (group_count (header_of c.args.bytes.now) c.args.bytes.now)) = ap (λ t. t.group_names) c.of-start.ensures ∙ (ap (λ (h : Header). group_names_start h c.args.groups) c.requires.header ∙ ap (group_names_start (header_of c.args.bytes.now)) c.requires.groups) in
    record {
      ok = table_told (IsCanonical group_name_bytes group_name_of) 8 c.from.result c.of-start.result.group_names (header_of c.args.bytes.now).group_names (group_names_start (header_of c.args.bytes.now) (group_count (header_of c.args.bytes.now) c.args.bytes.now)) c.args.bytes.now c.check_table.result count_is start_is c.check_table.ensures.ok;
      fault = garbled_fault group_name_bytes group_name_of GroupName 8 c.from.result c.of-start.result.group_names (header_of c.args.bytes.now).group_names (group_names_start (header_of c.args.bytes.now) (group_count (header_of c.args.bytes.now) c.args.bytes.now)) c.args.bytes.now c.check_table.result c.requires.whole (λ i g. g) count_is start_is c.check_table.ensures.garbled;
    }

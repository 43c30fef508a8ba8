use Rattle.std.proofs.Common.{ap, ◌∙◌, ◌≡◌}
use Rattle.kx_tables.specs.declared.check.RecordKind.TheVariants.{Group}
use Rattle.kx_image.specs.Image.{IsCanonical}
use Rattle.kx_image.specs.Records.{group_bytes, group_of}
use Rattle.kx_image.specs.Shape.{header_of, group_count, groups_start}
use Rattle.kx_image.proofs.Garbling.{table_told, garbled_fault}
use Rattle.kx_image.proofs.canonical.check_groups.Goals as goal

pub returns : goal.returns
returns c =
    let count_is : c.args.groups ≡ (group_count (header_of c.args.bytes.now) c.args.bytes.now) = c.requires.groups in
    let start_is : c.of-start.result.groups ≡ (groups_start (header_of c.args.bytes.now)) = ap (λ t. t.groups) c.of-start.ensures ∙ (ap groups_start c.requires.header) in
    record {
      ok = table_told (IsCanonical group_bytes group_of) 8 c.args.groups c.of-start.result.groups (group_count (header_of c.args.bytes.now) c.args.bytes.now) (groups_start (header_of c.args.bytes.now)) c.args.bytes.now c.check_table.result count_is start_is c.check_table.ensures.ok;
      fault = garbled_fault group_bytes group_of Group 8 c.args.groups c.of-start.result.groups (group_count (header_of c.args.bytes.now) c.args.bytes.now) (groups_start (header_of c.args.bytes.now)) c.args.bytes.now c.check_table.result c.requires.whole (λ i g. g) count_is start_is c.check_table.ensures.garbled;
    }

use Rattle.std.proofs.Common.{ap, ◌∙◌, ◌≡◌}
use Rattle.kx_tables.specs.declared.check.RecordKind.TheVariants.{Cell}
use Rattle.kx_image.specs.Image.{IsCanonical}
use Rattle.kx_image.specs.Records.{cell_bytes, cell_of}
use Rattle.kx_image.specs.Shape.{header_of, group_count, cells_start}
use Rattle.kx_image.specs.declared.header.Header.{Header}
use Rattle.kx_image.proofs.Garbling.{table_told, garbled_fault}
use Rattle.kx_image.proofs.canonical.check_cells.Goals as goal

pub returns : goal.returns
returns c =
    let count_is : c.args.header.cells ≡ (header_of c.args.bytes.now).cells = (ap (λ k. k.cells) c.requires.header) in
    let start_is : c.of-start.result.cells ≡ (cells_start (header_of c.args.bytes.now) (group_count (header_of c.args.bytes.now) c.args.bytes.now)) = ap (λ t. t.cells) c.of-start.ensures ∙ (ap (λ (h : Header). cells_start h c.args.groups) c.requires.header ∙ ap (cells_start (header_of c.args.bytes.now)) c.requires.groups) in
    record {
      ok = table_told (IsCanonical cell_bytes cell_of) 12 c.args.header.cells c.of-start.result.cells (header_of c.args.bytes.now).cells (cells_start (header_of c.args.bytes.now) (group_count (header_of c.args.bytes.now) c.args.bytes.now)) c.args.bytes.now c.check_table.result count_is start_is c.check_table.ensures.ok;
      fault = garbled_fault cell_bytes cell_of Cell 12 c.args.header.cells c.of-start.result.cells (header_of c.args.bytes.now).cells (cells_start (header_of c.args.bytes.now) (group_count (header_of c.args.bytes.now) c.args.bytes.now)) c.args.bytes.now c.check_table.result c.requires.whole (λ i g. g) count_is start_is c.check_table.ensures.garbled;
    }

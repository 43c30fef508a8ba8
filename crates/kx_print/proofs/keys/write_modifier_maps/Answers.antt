use Rattle.ks_core.proofs.BufferedOutLemmas.{writes_more}
use Rattle.std.proofs.Common.{ap, slice_get}
use Rattle.std.specs.List.{flat_map}
use Rattle.kx_mods.specs.Mods.{mask, mod_names}
use Rattle.kx_tables.specs.Content.{key_name}
use Rattle.kx_print.specs.Masks.{chosen}
use Rattle.kx_print.specs.Printed.{modifier_map_line, modifier_map_lines}
use Rattle.kx_print.proofs.Rows.{of_row}
use Rattle.kx_print.proofs.Writing.{rewritten}
use Rattle.kx_print.proofs.keys.write_modifier_maps.Goals as goal

pub loop-index-preserved : goal.loop-index-preserved
unfolding modifier_map_lines
loop-index-preserved g c =
    let content = g.T.Rows.content c.args.tables.now in
    writes_more g.O.Out.written g.O.Out.failures c.args.out.now c.loop-index.out c.write_modifier_map.new.out c.args.buffered.now c.loop-index.buffered c.write_modifier_map.new.buffered (modifier_map_lines content) content.keys c.loop-index.index c.key_row.result
    c.key_row.ensures c.loop-index.invariant (rewritten (ap (λ n. flat_map (modifier_map_line n) (chosen (mask c.key_row.result.modmap) mod_names)) (of_row (key_name content) (slice_get content.keys c.loop-index.index) c.key_row.result c.key_name.result.now c.key_row.ensures c.key_name.ensures)) c.write_modifier_map.ensures)

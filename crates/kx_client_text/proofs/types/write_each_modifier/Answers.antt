use Rattle.std.proofs.Common.{codes, refl}
use Rattle.std.proofs.lemmas.Option.{slice_get_read}
use Rattle.kx_print.proofs.Listing.{listed_row}
use Rattle.kx_print.proofs.Writing.{◌⨟◌}
use Rattle.kx_client_text.specs.Written.{modifier_text}
use Rattle.kx_client_text.proofs.types.write_each_modifier.Goals as goal

pub modifiers-preserved : goal.modifiers-preserved
modifiers-preserved g c =
    let modifiers = c.args.modifiers.now in
    let at = slice_get_read modifiers _ c.modifiers.modifier-index c.modifier-item.result refl c.modifiers-test.true c.modifier-item.is in
    listed_row g.O.Out.written g.O.Out.failures modifier_text modifiers c.modifiers.modifier-index c.modifier-item.result (codes ", ") c.args.out.now c.modifiers.out c.write_modifier.new.out c.args.buffered.now c.modifiers.buffered c.write_modifier.new.buffered c.modifiers.before.now
    at c.modifiers.invariant (c.write.ensures ⨟ c.write_modifier.ensures)

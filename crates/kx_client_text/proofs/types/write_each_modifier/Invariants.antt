use Rattle.std.proofs.Common.{codes, map, take}
use Rattle.kx_print.proofs.Listing.{Listed}
use Rattle.kx_client_text.specs.Written.{modifier_text}
use Rattle.kx_client_text.proofs.types.write_each_modifier.Given as goal

abbrev pub invariant-modifiers : goal.invariant-modifiers
invariant-modifiers g l = Listed g.O.Out.written g.O.Out.failures (codes ", ") l.fn.out l.out l.fn.buffered l.buffered l.before (map modifier_text (take l.modifier-index l.modifiers))

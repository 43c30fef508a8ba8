use Rattle.std.proofs.Common.{◌≡◌, drop}
use Rattle.std.specs.List.{list_all}
use Rattle.kx_include.specs.Held.{closed_item}
use Rattle.kx_include.proofs.sources.Library.is_closed_at.Given as goal

abbrev pub invariant-items : goal.invariant-items
invariant-items l = record { left : list_all (closed_item l.self l.wanted l.kind) (drop l.item-index l.items) ≡ list_all (closed_item l.self l.wanted l.kind) l.items }

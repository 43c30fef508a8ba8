use Rattle.std.proofs.Common.{◌≡◌, drop}
use Rattle.std.specs.List.{list_all}
use Rattle.kx_include.specs.Held.{closed_part}
use Rattle.kx_include.proofs.sources.Library.is_closed_text.Given as goal

abbrev pub invariant-parts : goal.invariant-parts
invariant-parts l = record { left : list_all (closed_part l.self l.wanted l.kind) (drop l.part-index l.part-items) ≡ list_all (closed_part l.self l.wanted l.kind) l.part-items }

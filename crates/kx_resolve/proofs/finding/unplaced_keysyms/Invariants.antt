use Rattle.std.proofs.Common.{◌≡◌, ◌==◌, ℕ, None, Some, map, nat_eq, take, if◌then◌else◌}
use Rattle.std.specs.List.{list_any}
use Rattle.indexmap.specs.IndexMap.{get}
use Rattle.kx_modmaps.specs.Maps.{shown_entry}
use Rattle.kx_resolve.proofs.finding.unplaced_keysyms.Given as goal

abbrev pub invariant-entries : goal.invariant-entries
invariant-entries l = (k : ℕ) → get nat_eq l.firsts k ≡ (if list_any (λ (e : ℕ × ℕ). e.0 == k) (map shown_entry (take l.entry-index l.entry-items)) then Some None else None)

use Rattle.std.proofs.Common.{◌≡◌, ◌&&◌, ℕ, None, map, nat_eq, take, unwrap_or}
use Rattle.std.specs.List.{list_any}
use Rattle.std.specs.Option.{option_map_or}
use Rattle.indexmap.specs.IndexMap.{get}
use Rattle.kx_virtual_mods.specs.Sets.{has}
use Rattle.kx_modmaps.specs.Maps.{shown_entry}
use Rattle.kx_mods.specs.Mods.{mask}
use Rattle.kx_keys.specs.Mapping.{is_at}
use Rattle.kx_resolve.proofs.key_modmaps.mods_by_code.Given as goal

abbrev pub invariant-entries : goal.invariant-entries
invariant-entries l = (c real : ℕ) → has (option_map_or mask (get nat_eq l.by_code c) 0) real ≡ list_any (λ (e : ℕ × ℕ). is_at c (unwrap_or (get nat_eq l.firsts e.0) None) && has e.1 real) (map shown_entry (take l.entry-index l.entry-items))

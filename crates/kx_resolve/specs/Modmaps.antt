-- What keys are mapped to, as it is kept.
use Rattle.std.specs.Prelude.{ℕ, ◌||◌, nat_eq, Bool, List}
use Rattle.std.specs.Map.{lookup}
use Rattle.std.specs.Option.{option_map_or}
use Rattle.indexmap.specs.IndexMap.{IndexMap, get}
use Rattle.kx_keys.specs.Rows.{mods_of}
use Rattle.kx_virtual_mods.specs.Sets.{has}
use Rattle.kx_modmaps.specs.Maps.{Maps, key_mask}
use Rattle.kx_mods.specs.Mods.{mask}
use Rattle.kx_mods.specs.declared.mods.Mods.{Mods}

-- modifier maps, and by code what keys are mapped to by their keysyms
pub record Modmaps : Type 0 where
  pub maps : Maps
  pub by_keysym : List (ℕ × Mods)

-- what the key of a code is mapped to
abbrev pub modmap_at : Modmaps → ℕ → Mods
modmap_at kept code = mods_of (λ real. has (key_mask kept.maps code) real || has (option_map_or mask (lookup (nat_eq code) kept.by_keysym) 0) real)

-- ---- Under a name, for clauses and proofs

-- what keys are mapped to by their keysyms, as a map by code
abbrev pub is_mapped : {S : Type 0} → IndexMap ℕ Mods S → ℕ → ℕ → Bool
is_mapped by_code code real = has (option_map_or mask (get nat_eq by_code code) 0) real

-- Virtual modifiers, with what they stand for.
use Rattle.std.specs.Prelude.{◌≡◌, ◌<◌, ℕ, List, length, map, slice_get}
use Rattle.std.specs.Option.{option_map_or}
use Rattle.kx_mods.specs.Mods.{mask}
use Rattle.kx_mods.specs.declared.mods.Mods.{Mods}
use Rattle.kx_keys.specs.Selecting.{RealSet}
use Rattle.kx_virtual_mods.specs.Sets.{has}
use Rattle.kx_clients.specs.declared.virtual_modifier.VirtualModifier.{VirtualModifier}

abbrev pub names_among : List VirtualModifier → List (List ℕ)
names_among modifiers = map (λ (m : VirtualModifier). m.name) modifiers

-- the real modifiers of the one of a number
abbrev pub mods_among : List VirtualModifier → ℕ → RealSet
mods_among modifiers number = has (option_map_or (λ (m : VirtualModifier). mask m.mods) (slice_get modifiers number) 0)

-- ---- Under a name, for clauses

abbrev pub stands_among : List VirtualModifier → List Mods
stands_among modifiers = map (λ (m : VirtualModifier). m.mods) modifiers

-- ---- That they are those of a source

-- by their numbers
pub record AreVirtualModifiers (modifiers : List VirtualModifier) (names : List (List ℕ)) (stands : ℕ → RealSet) : Type 0 where
  pub names_are : names_among modifiers ≡ names
  pub mods_are : (number real : ℕ) → number < length names → mods_among modifiers number real ≡ stands number real

-- What virtual modifiers stand for, as a list by number.
use Rattle.std.specs.Prelude.{ℕ, Bool, List, slice_get}
use Rattle.std.specs.Option.{option_map_or}
use Rattle.kx_mods.specs.Mods.{mask}
use Rattle.kx_mods.specs.declared.mods.Mods.{Mods}
use Rattle.kx_virtual_mods.specs.Sets.{has}

-- those past the list's end stand for none
abbrev pub stands_for : List Mods → ℕ → ℕ → Bool
stands_for stands number real = has (option_map_or mask (slice_get stands number) 0) real

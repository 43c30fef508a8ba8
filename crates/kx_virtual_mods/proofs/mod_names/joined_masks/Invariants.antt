use Rattle.std.proofs.Common.{◌≡◌, ◌<◌, ℕ, length}
use Rattle.std.specs.List.{slice_get}
use Rattle.std.specs.Option.{option_map_or}
use Rattle.kx_mods.specs.Mods.{mask}
use Rattle.kx_virtual_mods.specs.Records.{mask_recorded}
use Rattle.kx_virtual_mods.specs.Sets.{union}
use Rattle.kx_virtual_mods.proofs.mod_names.joined_masks.Given as goal

abbrev pub invariant-numbers : goal.invariant-numbers
invariant-numbers l = (length l.masks.items ≡ l.number) × ((number : ℕ) → number < l.number → option_map_or mask (slice_get l.masks.items number) 0 ≡ union (union (union 0 (mask_recorded l.types number)) (mask_recorded l.compat number)) (mask_recorded l.symbols number))

-- Sets of the eight real modifiers, as masks: bits 0 to 7 are Shift, Lock, Control and Mod1 to Mod5.
use Rattle.std.specs.Prelude.{ℕ, ◌-◌, List, [], ◌∷◌, codes}
use Rattle.std.specs.Int.RustNames.{bit_and}
use Rattle.kx_mods.specs.declared.mods.Mods.{Mods}

-- the set as a mask
abbrev pub mask : Mods → ℕ
mask m = m.0

-- the mask without the bits of another
abbrev pub mask_without : ℕ → ℕ → ℕ
mask_without m n = bit_and m (255 - n)

-- the names of the modifiers, from bit 0 on
unfoldable pub mod_names : List (List ℕ)
mod_names =
    codes "Shift" ∷ codes "Lock" ∷ codes "Control" ∷ codes "Mod1" ∷ codes "Mod2" ∷ codes "Mod3" ∷ codes "Mod4" ∷ codes "Mod5" ∷ []

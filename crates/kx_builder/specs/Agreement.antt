-- Keymaps that show the same, for every code, group and set of modifiers.
use Rattle.std.specs.Prelude.{ℕ, ◌≡◌}
use Rattle.kx_tables.specs.Keymap.{Keymap}

pub record ShowsSame (a b : Keymap) : Type 0 where
  pub groups : a.groups ≡ b.groups
  pub known : (code : ℕ) → a.known code ≡ b.known code
  pub shown : (code group mods : ℕ) → a.shown code group mods ≡ b.shown code group mods
  pub indicator_maps : a.indicator_maps ≡ b.indicator_maps

-- Keymaps that show the same are one keymap.
use Rattle.std.proofs.Common.{◌≡◌}
use Rattle.kx_builder.specs.Agreement.{ShowsSame}
use Rattle.kx_tables.specs.Keymap.{Keymap}

pub one_keymap : (a b : Keymap) → ShowsSame a b → a ≡ b
one_keymap a b same = λ i. record {
  groups = same.groups i;
  known = λ code. same.known code i;
  shown = λ code group mods. same.shown code group mods i;
  indicator_maps = same.indicator_maps i;
}

use Rattle.std.proofs.Common.{◌≡◌, ◌<◌, ℕ, length, take}
use Rattle.kx_virtual_mods.specs.Standing.{stands_for}
use Rattle.kx_clients.specs.VirtualModifiers.{mods_among, names_among}
use Rattle.kx_clients.proofs.virtual_modifier.virtual_modifiers.Given as goal

abbrev pub invariant-numbers : goal.invariant-numbers
invariant-numbers l = record {
  count : length l.all.items ≡ l.number;
  names : names_among l.all.items ≡ take l.number l.modifiers.names;
  mods : (n real : ℕ) → n < l.number → mods_among l.all.items n real ≡ stands_for l.stands n real;
}

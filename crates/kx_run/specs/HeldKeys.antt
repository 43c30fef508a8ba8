-- What the parts of `HeldKeys` say of its list.
use Rattle.std.specs.Prelude.{◌≡◌, ℕ, ◌<◌, slice_index}
use Rattle.kx_mods.specs.Mods.{mask}
use Rattle.kx_run.specs.declared.held.HeldKeys.TheInside.{Inside}
use Rattle.kx_run.specs.Held.{AreSound, base_mods, base_group, count_of}

pub record AreKept (h : Inside) : Type 0 where
  pub sound : AreSound h.keys
  pub counts : (bit : ℕ) → bit < 8 → slice_index h.counts bit ≡ count_of bit h.keys
  pub mods : mask h.mods ≡ base_mods h.keys
  pub group : h.group ≡ base_group h.keys

-- What the parts of `Presses` say of its entries.
use Rattle.std.specs.Prelude.{◌≡◌, ◌<◌, ◌≤◌, All, length, vec_capacity}
use Rattle.kx_run.specs.declared.presses.Presses.TheInside.{Inside}
use Rattle.kx_run.specs.Held.{AreDistinct}
use Rattle.kx_run.specs.Presses.{AreEarlierDisturbed, ArePlaced, keys_of}

pub record AreKept (p : Inside) : Type 0 where
  pub distinct : AreDistinct (keys_of p.entries.items)
  pub codes : All (λ key. key.code < 4096) (keys_of p.entries.items)
  pub count : p.count ≡ length (keys_of p.entries.items)
  pub long : length p.places.items ≡ 4096
  pub places : ArePlaced p.places.items p.entries.items
  pub earlier : AreEarlierDisturbed p.entries.items
  pub room : 8256 ≤ vec_capacity p.entries

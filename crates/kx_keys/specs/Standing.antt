-- What sets of modifiers stand for.
use Rattle.std.specs.Prelude.{ℕ, ◌≡◌, Bool, List}
use Rattle.kx_mods.specs.declared.mods.Mods.{Mods}
use Rattle.kx_keys.specs.Selecting.{RealSet}
use Rattle.kx_virtual_mods.specs.Sets.{has_virtual, real_of}
use Rattle.kx_virtual_mods.specs.Standing.{stands_for}

-- `stands` is what virtual modifiers stand for, by number
abbrev pub real_by : List Mods → ℕ → RealSet
real_by stands = real_of (stands_for stands)

-- the virtual modifiers of a set are those that a test tells
abbrev pub VirtualsAre : ℕ → (ℕ → Bool) → Type 0
VirtualsAre set test = (number : ℕ) → has_virtual set number ≡ test number

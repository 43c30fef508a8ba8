-- What bearers of virtual modifiers are mapped to.
use Rattle.std.specs.Prelude.{ℕ, ◌≡◌, ◌&&◌, ◌||◌, Bool, List}
use Rattle.std.specs.List.{list_any}
use Rattle.kx_resolve.specs.declared.virtual_modifiers.MappedKey.{MappedKey}
use Rattle.kx_virtual_mods.specs.Sets.{has, has_virtual}
use Rattle.kx_mods.specs.Mods.{mask}

-- one that bears a virtual modifier is mapped to a real one
abbrev pub is_brought : List MappedKey → ℕ → ℕ → Bool
is_brought mapped_keys number real = list_any (λ (b : MappedKey). has_virtual b.vmodmap number && has (mask b.mods) real) mapped_keys

-- more is brought than was
abbrev pub BringsMore : (ℕ → ℕ → Bool) → List MappedKey → List MappedKey → Type 0
BringsMore more old new = (number real : ℕ) → is_brought new number real ≡ (is_brought old number real || more number real)

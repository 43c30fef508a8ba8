-- What a keymap's source says that its image leaves out.
use Rattle.std.specs.Prelude.{ℕ, Bool, false, List, get_or}
use Rattle.kx_builder.specs.Resolved.{ResolvedType}
use Rattle.kx_clients.specs.declared.alias.Alias.{Alias}
use Rattle.kx_clients.specs.declared.virtual_modifier.VirtualModifier.{VirtualModifier}

pub record LeftOut : Type 0 where
  pub aliases : List Alias
  -- by number, from 1
  pub indicators : List (List ℕ)
  -- by number
  pub modifiers : List VirtualModifier
  -- by first appearance
  pub types : List ResolvedType
  -- by keycode
  pub repeating : List Bool

-- after the end of the list none repeats
abbrev pub repeats : LeftOut → ℕ → Bool
repeats left code = get_or left.repeating code false

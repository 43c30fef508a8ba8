-- What is read of codes, keys, types, modifier maps, interpretations and declared masks.
use Rattle.std.specs.Prelude.{ℕ, List}
use Rattle.kx_keys.specs.Vmodmap.{ReadKeymap}
use Rattle.kx_compat.specs.Interpretations.{Interpretation}
use Rattle.kx_codes.specs.Codes.{Codes, name_of}
use Rattle.kx_virtual_mods.specs.Standing.{stands_for}
use Rattle.kx_mods.specs.declared.mods.Mods.{Mods}
use Rattle.kx_symbols.specs.Keys.{KeyContent, key_at}
use Rattle.kx_keys.specs.Typing.{Typing}
use Rattle.kx_keys.specs.Given.{given_in}

-- `modmap` are the modifiers that the keys of codes are mapped to, `declared` the masks of virtual modifiers by number
abbrev pub read_keymap_of : Codes → Typing → List (ℕ × KeyContent) → (ℕ → Mods) → List Interpretation → List Mods → ReadKeymap
read_keymap_of codes typing keys modmap interpretations declared = record {
  name = name_of codes;
  key = λ code. given_in (key_at keys code);
  modmap = modmap;
  typing = typing;
  interpretations = interpretations;
  masks = stands_for declared;
}

-- What is read of keys by code, under names for clauses and proofs.
use Rattle.std.specs.Prelude.{ℕ, List, Option, None, Some}
use Rattle.kx_codes.specs.Codes.{name_of}
use Rattle.kx_modmaps.specs.Maps.{Maps}
use Rattle.kx_symbols.specs.Keys.{KeyContent, key_at}
use Rattle.kx_keys.specs.Given.{KeyGiven, given_in}
use Rattle.kx_keys.specs.Mapping.{Mapping, group_places, key_places}
use Rattle.kx_keys.specs.GroupTypes.{group_count}
use Rattle.kx_keys.specs.Keys.{type_names_below, type_names_if, types_used}
use Rattle.kx_resolve.specs.ReadMapping.{mapping_of}
use Rattle.kx_keys.specs.Typing.{Typing, typing_of}
use Rattle.kx_keys.specs.declared.places.LevelPlace.{LevelPlace}
use Rattle.kx_resolve.specs.declared.named_keys.NamedKeys.{NamedKeys}

-- a key whose code has a name
abbrev pub if_named : Option (List ℕ) → Option KeyContent → Option KeyContent
if_named None key = None
if_named (Some name) key = key

-- where keysyms stand on a key
abbrev pub places_on : Typing → KeyGiven → ℕ → ℕ → List LevelPlace
places_on typing key code keysym = group_places keysym typing key code (group_count key)

module _ (read : NamedKeys) where
  abbrev pub typing_in : Typing
  typing_in = typing_of read.typing

  abbrev pub name_in : ℕ → Option (List ℕ)
  name_in = name_of read.codes.now

  abbrev pub key_in : ℕ → KeyGiven
  key_in code = given_in (key_at read.keys.now code)

  abbrev pub named_key : ℕ → Option KeyContent
  named_key code = if_named (name_in code) (key_at read.keys.now code)

  -- the names of the types of a key's groups, and those of the keys of codes below a number
  abbrev pub names_at : ℕ → List (List ℕ)
  names_at code = type_names_if typing_in (name_in code) (key_in code)

  abbrev pub names_used : ℕ → List (List ℕ)
  names_used = type_names_below typing_in name_in key_in

  -- each once
  abbrev pub used_in : List (List ℕ)
  used_in = types_used typing_in name_in key_in

  abbrev pub places_of_key : ℕ → ℕ → List LevelPlace
  places_of_key code keysym = key_places keysym typing_in code (name_in code) (key_in code)

  abbrev pub mapping_in : Maps → Mapping
  mapping_in maps = mapping_of read.codes.now typing_in read.keys.now maps

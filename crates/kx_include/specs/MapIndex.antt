-- Where the maps of a text stand, by kind and name.
use Rattle.std.specs.Prelude.{◌≡◌, ℕ, Bool, ◌&&◌, List, position, if◌then◌else◌, Option, None, Some}
use Rattle.std.specs.List.{list_any}
use Rattle.std.specs.Map.{lookup}
use Rattle.std.specs.Option.{option_and_then, option_or}
use Rattle.std.specs.Str.{bytes_eq}
use Rattle.kx_tree.specs.declared.tree.Kind.{Kind}
use Rattle.kx_tree.specs.declared.tree.Kind.TheVariants.{Keycodes, Types, Compat, Symbols, Geometry}
use Rattle.kx_tree.specs.declared.tree.Section.{Section}
use Rattle.kx_include.specs.Library.{is_of, is_default_flag, map_of}
use Rattle.kx_include.specs.declared.kind_maps.KindMaps.{KindMaps}

-- the number for a kind
abbrev pub number_in : Kind → KindMaps → Option ℕ
number_in Keycodes maps = maps.keycodes
number_in Types maps = maps.types
number_in Compat maps = maps.compat
number_in Symbols maps = maps.symbols
number_in Geometry maps = maps.geometry

-- what was found, else a number where something is here
abbrev pub or_here : Option ℕ → Bool → ℕ → Option ℕ
or_here before here n = option_or before (if here then Some n else None)

-- with a section's number, where none of its kind was known
abbrev pub with_map : KindMaps → Kind → ℕ → KindMaps
with_map maps Keycodes n = record maps { keycodes = option_or maps.keycodes (Some n) }
with_map maps Types n = record maps { types = option_or maps.types (Some n) }
with_map maps Compat n = record maps { compat = option_or maps.compat (Some n) }
with_map maps Symbols n = record maps { symbols = option_or maps.symbols (Some n) }
with_map maps Geometry n = record maps { geometry = option_or maps.geometry (Some n) }

-- with a section's number, where the section is flagged default
abbrev pub with_flagged : KindMaps → Section → ℕ → KindMaps
with_flagged maps s n = if list_any is_default_flag s.flags then with_map maps s.kind n else maps

-- the number for a kind and a name
abbrev pub named_in : Kind → List ℕ → List (List ℕ × KindMaps) → Option ℕ
named_in kind name named = option_and_then (number_in kind) (lookup (bytes_eq name) named)

-- of each kind the first section of each name, the first flagged default and the first of all
pub record MapIndex : Type 0 where
  pub named : List (List ℕ × KindMaps)
  pub flagged : KindMaps
  pub first : KindMaps

abbrev pub found : MapIndex → Kind → Option (List ℕ) → Option ℕ
found index kind (Some name) = named_in kind name index.named
found index kind None = option_or (number_in kind index.flagged) (number_in kind index.first)

-- the index finds in these sections what `map_of` finds
pub record IsIndex (index : MapIndex) (sections : List Section) : Type 0 where
  pub named : (kind : Kind) (name : List ℕ) → found index kind (Some name) ≡ map_of sections kind (Some name)
  pub flagged : (kind : Kind) → number_in kind index.flagged ≡ position (λ s. is_of kind s && list_any is_default_flag s.flags) sections
  pub first : (kind : Kind) → number_in kind index.first ≡ position (is_of kind) sections

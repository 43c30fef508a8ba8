-- That it is what a source and its files say.
use Rattle.std.specs.Prelude.{ℕ, ◌≡◌, ◌<◌, ◌≤◌, Bool, List, length}
use Rattle.ks_core.specs.Table.{KeysymTable}
use Rattle.kx_basics.specs.declared.limits.TheConstants.{CODES}
use Rattle.kx_codes.specs.Codes.{name_of}
use Rattle.kx_include.specs.Expansion.{body_of}
use Rattle.kx_include.specs.IncludeFaults.{IsWhole}
use Rattle.kx_include.specs.Library.{Library}
use Rattle.kx_include.specs.Source.{Handed, IsRead}
use Rattle.kx_tree.specs.declared.tree.Kind.TheVariants.{Compat, Keycodes, Symbols, Types}
use Rattle.kx_keys.specs.Vmodmap.{stands}
use Rattle.kx_source.specs.Meaning.{codes_in, interpretations_in, key_in, modifiers_of, modmap_in, read_keymap_in}
use Rattle.kx_virtual_mods.specs.Sets.{real_of}
use Rattle.kx_clients.specs.Aliases.{known_aliases}
use Rattle.kx_clients.specs.DeclaredTypes.{declared_types}
use Rattle.kx_clients.specs.IndicatorNames.{AreIndicatorNames}
use Rattle.kx_clients.specs.InterpretationRepeats.{match_repeats}
use Rattle.kx_clients.specs.KeyRepeats.{said_repeat}
use Rattle.kx_clients.specs.LeftOut.{LeftOut, repeats}
use Rattle.kx_clients.specs.Repeats.{key_repeats}
use Rattle.kx_clients.specs.VirtualModifiers.{AreVirtualModifiers, mods_among}

-- which keys of a source and its files repeat, by keycode
abbrev pub repeats_in : KeysymTable → Library → ℕ → Bool
repeats_in names library code = key_repeats (match_repeats names (modifiers_of library) (body_of library Compat)) (interpretations_in names library) (name_of (codes_in library) code) (said_repeat (codes_in library) (body_of library Symbols) code) (modmap_in names library code) (key_in names library code)

-- the aliases by which keys are known, the names of indicators, what virtual modifiers stand for, the types with the real modifiers
-- that theirs stand for, and which keys repeat
pub record AreLeftOut (names : KeysymTable) (library : Library) (left : LeftOut) : Type 0 where
  pub aliases_are : left.aliases ≡ known_aliases (codes_in library) (body_of library Keycodes)
  pub indicators_are : AreIndicatorNames left.indicators (body_of library Keycodes)
  pub modifiers_are : AreVirtualModifiers left.modifiers (modifiers_of library) (stands (read_keymap_in names library))
  pub types_are : left.types ≡ declared_types (real_of (mods_among left.modifiers)) (modifiers_of library) (body_of library Types)
  pub few_codes : length left.repeating ≤ CODES
  pub repeats_are : (code : ℕ) → code < CODES → repeats left code ≡ repeats_in names library code

pub record LeavesOut (source : List ℕ) (files : Handed) (names : KeysymTable) (left : LeftOut) : Type 0 where
  pub library : Library
  pub read : IsRead source files library
  pub whole : IsWhole library
  pub are : AreLeftOut names library left

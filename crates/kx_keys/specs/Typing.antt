-- What tells the key type of a group: the declared types, and which keysyms are letters.
use Rattle.std.specs.Prelude.{ℕ, List, Option}
use Rattle.ks_core.specs.Keysym.{FurtherLetters}
use Rattle.ks_core.specs.Table.{letters_of}
use Rattle.kx_types.specs.KeyTypes.{Definition}
use Rattle.kx_types.specs.Types.{NamedTypes, type_named}
use Rattle.kx_keys.specs.declared.typing.Typing.{Typing as Read}

pub record Typing : Type 0 where
  -- by name
  pub declared : List ℕ → Option Definition
  pub letters : FurtherLetters

-- ---- As they are read

abbrev pub typing_by : NamedTypes → FurtherLetters → Typing
typing_by types letters = record { declared = type_named types; letters = letters }

abbrev pub typing_of : Read → Typing
typing_of read = typing_by read.types.now (letters_of read.letters)

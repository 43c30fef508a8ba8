-- Which tables can be printed so that the text means them again.
use Rattle.std.specs.Prelude.{◌≡◌, ◌≤◌, true, length}
use Rattle.std.specs.List.{list_all}
use Rattle.ks_core.specs.Table.{KeysymTable}
use Rattle.ks_core.specs.Lines.{is_sound}
use Rattle.kx_lex.specs.declared.scan.TheConstants.{MOST_TEXT_BYTES}
use Rattle.kx_print.specs.Printed.{printed}
use Rattle.kx_tables.specs.Content.{Content}
use Rattle.kx_tables.specs.Sound.{Sound}
use Rattle.kx_types.specs.declared.limits.TheConstants.{MOST_TYPES}

-- sound tables of as many types and of as long a text as a source may have
pub record CanBePrinted (c : Content) : Type 0 where
  pub sound : Sound c
  pub few_types : length c.types ≤ MOST_TYPES
  pub short : length (printed c) ≤ MOST_TEXT_BYTES

-- the names of a table are those that lines may give
abbrev pub AreNames : KeysymTable → Type 0
AreNames names = list_all is_sound names.names ≡ true

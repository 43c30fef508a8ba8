-- A table of names of keysyms: the names that it has beyond the built-in ones, and which keysyms are its letters.
use Rattle.std.specs.Prelude.{List, []}
use Rattle.ks_core.specs.Entry.{Entry}
use Rattle.ks_core.specs.Keysym.{FurtherLetters}
use Rattle.ks_core.specs.MoreLetters.{more_lower, more_upper}
use Rattle.ks_core.specs.X11.{x11_names}
use Rattle.ks_core.specs.declared.further.Further.{Further}
use Rattle.ks_core.specs.declared.further.Further.TheVariants as further
use Rattle.ks_core.specs.declared.letters.Letters.{Letters}
use Rattle.ks_core.specs.declared.letters.Letters.TheVariants.{BuiltIn, Unicode}

pub record KeysymTable : Type 0 where
  pub names : List Entry
  pub letters : FurtherLetters

-- none, or all others of Unicode's simple case mapping
abbrev pub letters_of : Letters → FurtherLetters
letters_of BuiltIn = record { lower = []; upper = [] }
letters_of Unicode = record { lower = more_lower; upper = more_upper }

-- with these names, and the letters that every table has
abbrev pub with_names : List Entry → KeysymTable
with_names names = record { names = names; letters = letters_of BuiltIn }

-- the names and the letters of X11
abbrev pub x11_table : KeysymTable
x11_table = record { names = x11_names; letters = letters_of Unicode }

-- ---- Under a name, for the type

abbrev pub table_of : Further → KeysymTable
table_of further.None = with_names []
table_of (further.Lines given) = with_names given
table_of further.X11 = x11_table

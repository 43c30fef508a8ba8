-- A source with the files handed in, and the faults for which it can't be read.
use Rattle.std.specs.Prelude.{ℕ, ◌≡◌, ◌⊎◌, ◌≤◌, ◌<◌, List, length}
use Rattle.kx_include.specs.Library.{Library}
use Rattle.kx_include.specs.Texts.{IsLibrary, IsShort}
use Rattle.kx_lex.specs.Reading.{IsReading, StopsWith as LexingStopsWith, whole_of}
use Rattle.kx_lex.specs.declared.fault.Fault.{Fault}
use Rattle.kx_lex.specs.declared.fault.Fault.TheVariants.{TooLong, TooMany}
use Rattle.kx_lex.specs.declared.token.Token.{Token}
use Rattle.kx_tree.specs.Sections.{Spells, StopsWith}
use Rattle.kx_tree.specs.declared.tree.Tree.{Tree}
use Rattle.kx_lex.specs.declared.scan.TheConstants.{MOST_TEXT_BYTES}
use Rattle.kx_include.specs.declared.sources.TheConstants.{MOST_FILES}

-- files by name, as they are handed in
abbrev pub Handed : Type 0
Handed = List (List ℕ × List ℕ)

-- the tree of a source's one reading, with the texts of the files
pub record IsRead (source : List ℕ) (files : Handed) (library : Library) : Type 0 where
  pub tokens : List Token
  pub tree : Tree
  pub short : IsShort source
  pub few_files : length files ≤ MOST_FILES
  pub reading : IsReading source tokens
  pub spelled : Spells source tokens tree
  pub texts : IsLibrary tree files library

-- the source has no tree: it is too long; else its reading stops, or that of its tokens does
abbrev pub HasNoTree : List ℕ → Fault → Type 0
HasNoTree source e =
    ((MOST_TEXT_BYTES < length source) × (e ≡ TooLong (whole_of source)))
    ⊎ (IsShort source × (LexingStopsWith source e ⊎ ((tokens : List Token) × IsReading source tokens × StopsWith source tokens e)))

abbrev pub HasTooManyFiles : List ℕ → Handed → Fault → Type 0
HasTooManyFiles source files e = (MOST_FILES < length files) × (e ≡ TooMany (whole_of source))

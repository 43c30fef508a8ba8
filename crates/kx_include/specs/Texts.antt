-- What the text of a file gives: its tree, or a fault for which it has none.
use Rattle.std.specs.Prelude.{◌≡◌, ◌⊎◌, ℕ, ◌+◌, ◌<◌, ◌≤◌, List, [], ◌∷◌, length, map, Ok, Err}
use Rattle.kx_lex.specs.Reading.{IsReading, StopsWith, whole_of}
use Rattle.kx_lex.specs.declared.fault.At.{At}
use Rattle.kx_lex.specs.declared.fault.Fault.{Fault}
use Rattle.kx_lex.specs.declared.fault.Fault.TheVariants as fault
use Rattle.kx_lex.specs.declared.token.Token.{Token}
use Rattle.kx_tree.specs.Sections.{SpellsFile, FileStopsWith}
use Rattle.kx_tree.specs.declared.tree.Tree.{Tree}
use Rattle.kx_include.specs.Library.{Library, Text}
use Rattle.kx_lex.specs.declared.scan.TheConstants.{MOST_TEXT_BYTES}

abbrev in_text : ℕ → At → At
in_text file at = record { file = file; span = at.span }

-- the same fault of a text, in the text of a number
abbrev pub in_file : ℕ → Fault → Fault
in_file file (fault.TooLong at) = fault.TooLong (in_text file at)
in_file file (fault.BadByte at) = fault.BadByte (in_text file at)
in_file file (fault.OpenString at) = fault.OpenString (in_text file at)
in_file file (fault.OpenKeyName at) = fault.OpenKeyName (in_text file at)
in_file file (fault.Syntax at) = fault.Syntax (in_text file at)
in_file file (fault.NumberTooBig at) = fault.NumberTooBig (in_text file at)
in_file file e = e

-- a text has at most 1 MiB
abbrev pub IsShort : List ℕ → Type 0
IsShort bytes = length bytes ≤ MOST_TEXT_BYTES

-- the tree that a short text's tokens spell
abbrev pub IsTree : List ℕ → Tree → Type 0
IsTree bytes tree = IsShort bytes × ((tokens : List Token) × IsReading bytes tokens × SpellsFile bytes tokens tree)

-- a text is too long; else its reading stops, or the reading of its tokens does
abbrev pub IsStop : List ℕ → Fault → Type 0
IsStop bytes e = ((MOST_TEXT_BYTES < length bytes) × (e ≡ fault.TooLong (whole_of bytes))) ⊎ (IsShort bytes × (StopsWith bytes e ⊎ ((tokens : List Token) × IsReading bytes tokens × FileStopsWith bytes tokens e)))

abbrev pub IsText : ℕ → List ℕ → Text → Type 0
IsText file bytes (Ok tree) = IsTree bytes tree
IsText file bytes (Err f) = (e : Fault) × IsStop bytes e × (f ≡ in_file file e)

-- texts of files, counted on
pub data AreTexts : ℕ → List (List ℕ × List ℕ) → List Text → Type 0 where
  none : {n : ℕ} → AreTexts n [] []
  more : {n : ℕ} {file : List ℕ × List ℕ} {files : List (List ℕ × List ℕ)} {text : Text} {texts : List Text} → IsText n file.1 text → AreTexts (n + 1) files texts → AreTexts n (file ∷ files) (text ∷ texts)

-- the source's tree and the texts of the files
pub record IsLibrary (tree : Tree) (files : List (List ℕ × List ℕ)) (library : Library) : Type 0 where
  pub names : library.names ≡ map (λ f. f.0) files
  pub texts : (rest : List Text) × (library.texts ≡ Ok tree ∷ rest) × AreTexts 1 files rest

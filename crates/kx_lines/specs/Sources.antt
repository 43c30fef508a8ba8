-- The two parts of what a session reads: the source, up to the first line `%%`, and the lines after that line.
use Rattle.std.specs.Prelude.{◌≡◌, ℕ, Bool, true, false, List, [], ◌∷◌, ◌++◌, Option, Some, IfSome, codes, if◌then◌else◌}
use Rattle.std.specs.Option.{option_map}
use Rattle.kx_lines.specs.Input.{Came, IsWithin}
use Rattle.std.specs.Str.{bytes_eq}
use Rattle.ks_core.specs.Lines.{lines_of}

abbrev pub is_mark : List ℕ → Bool
is_mark line = bytes_eq line (codes "%%")

-- the lines before the mark, each with its line feed; without a mark all lines, and the last has none
abbrev pub source_of : List (List ℕ) → List ℕ
source_of [] = []
source_of (line ∷ []) = if is_mark line then [] else line
source_of (line ∷ (next ∷ lines)) = if is_mark line then [] else (line ++ 10 ∷ []) ++ source_of (next ∷ lines)

-- the lines after the mark
abbrev pub lines_behind : List (List ℕ) → List (List ℕ)
lines_behind [] = []
lines_behind (line ∷ lines) = if is_mark line then lines else lines_behind lines

abbrev pub source_in : List ℕ → List ℕ
source_in text = source_of (lines_of text)

abbrev pub lines_in : List ℕ → List (List ℕ)
lines_in text = lines_behind (lines_of text)

-- A source was read from bytes that came, and the lines after it, where there are any, are still to come.
pub record ReadsSource (old : Option (List ℕ)) (old_budget : ℕ) (new : Option (List ℕ)) (new_budget : ℕ) (source : List ℕ) (has_lines : Bool) : Type 0 where
  pub came : has_lines ≡ true → (bytes : List ℕ) × Came old old_budget new new_budget bytes
  pub is : IfSome old (λ text. source ≡ source_in text)
  pub lines : has_lines ≡ true → IfSome old (λ text. option_map lines_of new ≡ Some (lines_in text))
  pub none : has_lines ≡ false → IfSome old (λ text. lines_in text ≡ [])
  pub whole : has_lines ≡ false → IsWithin old old_budget

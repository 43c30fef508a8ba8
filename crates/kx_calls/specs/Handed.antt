-- The files that C hands in.
use Rattle.std.specs.Prelude.{ℕ, List, [], ◌∷◌}
use Rattle.kx_include.specs.Library.{with_file}
use Rattle.kx_calls.specs.declared.files.XkcFile.{XkcFile}

-- one after another
abbrev pub handed : List (List ℕ × List ℕ) → List XkcFile → List (List ℕ × List ℕ)
handed files [] = files
handed files (f ∷ fs) = handed (with_file files f.name.now f.text.now) fs

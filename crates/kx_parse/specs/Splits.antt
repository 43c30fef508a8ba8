-- A text of parts, cut at its first join.
use Rattle.std.specs.Prelude.{ℕ, Bool, not, List, [], Option, None, Some, is_some}
use Rattle.std.specs.Borrow.{Bor}
use Rattle.kx_tree.specs.declared.tree.Mode.{Mode}
use Rattle.kx_parse.specs.IncludeText.{join_of, joined, split}

-- no join
abbrev pub is_inner : ℕ → Bool
is_inner b = not (is_some (join_of b))

-- the texts, where one stands in front and others after a join
abbrev pub cut_at : List ℕ → Option (Mode × Bor (List ℕ)) → List ℕ × List (Mode × List ℕ)
cut_at front None = (front, [])
cut_at front (Some (mode, rest)) = (front, joined mode (split rest.now))

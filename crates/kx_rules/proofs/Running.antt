-- One line after another.
use Rattle.std.proofs.Common.{◌≡◌, ℕ, List, ◌∷◌, None, Some, ap}
use Rattle.kx_rule_lines.specs.Lines.{line_of}
use Rattle.kx_rules.specs.Names.{Names}
use Rattle.kx_rule_lines.specs.Pieces.{Piece}
use Rattle.kx_rules.specs.Rules.{Reading, State, Texts, go_on, has_rules, included, run}
use Rattle.kx_rules.specs.Steps.{reading}

module _ (names : Names) (texts : Texts) (depth : ℕ) (line : List Piece) (old : State) (rest : List (List Piece)) where
  next : Reading → Reading
  next r = go_on r (λ s. run names (included depth names texts) s rest)

  pub run_next : (new : State) → reading names texts depth (line_of (has_rules old.rules) line) old ≡ (new, None) → run names (included depth names texts) old (line ∷ rest) ≡ run names (included depth names texts) new rest
  unfolding next
  run_next new e = ap next e

  pub run_stopped : (new : State) (left : ℕ) → reading names texts depth (line_of (has_rules old.rules) line) old ≡ (new, Some left) → run names (included depth names texts) old (line ∷ rest) ≡ (new, Some left)
  unfolding next
  run_stopped new left e = ap next e

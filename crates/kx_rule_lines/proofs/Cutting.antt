-- A text is cut into lines piece by piece.
use Rattle.std.proofs.Common.{◌≡◌, true, false, List, [], ◌∷◌, ◌++◌, length, refl, ap, ◌∙◌, arith, cond}
use Rattle.kx_rule_lines.specs.Lines.{closes, lines}
use Rattle.kx_rule_lines.specs.Pieces.{Piece}

step : (begun : List Piece) (p : Piece) (ps : List Piece) → lines begun (p ∷ ps) ≡ cond (closes begun p.kind) ((begun ++ p ∷ []) ∷ lines [] ps) (lines (begun ++ p ∷ []) ps)
unfolding lines
step [] p ps = refl
step (a ∷ begun) p ps = refl

pub more_of_line : (begun : List Piece) (p : Piece) (ps : List Piece) → closes begun p.kind ≡ false → lines begun (p ∷ ps) ≡ lines (begun ++ p ∷ []) ps
more_of_line begun p ps h = step begun p ps ∙ ap (λ b. cond b ((begun ++ p ∷ []) ∷ lines [] ps) (lines (begun ++ p ∷ []) ps)) h

pub end_of_line : (begun : List Piece) (p : Piece) (ps : List Piece) → closes begun p.kind ≡ true → lines begun (p ∷ ps) ≡ (begun ++ p ∷ []) ∷ lines [] ps
end_of_line begun p ps h = step begun p ps ∙ ap (λ b. cond b ((begun ++ p ∷ []) ∷ lines [] ps) (lines (begun ++ p ∷ []) ps)) h

pub no_line : (begun : List Piece) → length begun ≡ 0 → lines begun [] ≡ []
unfolding lines
no_line [] h = refl
no_line (a ∷ begun) h = absurd (omega (arith, h))

pub last_line : (begun : List Piece) → (length begun ≡ 0 → ⊥) → lines begun [] ≡ begun ∷ lines [] []
unfolding lines
last_line [] h = absurd (h refl)
last_line (a ∷ begun) h = refl

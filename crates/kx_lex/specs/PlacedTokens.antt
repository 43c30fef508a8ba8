-- The tokens of a place, and how far they are looked at.
use Rattle.std.specs.Prelude.{ℕ, List, [], ◌∷◌, if◌then◌else◌, nat_lt, take}
use Rattle.kx_lex.specs.declared.token.Token.{Token}

-- up to the first that begins at an offset or after it, and one more
abbrev pub front_until : ℕ → List Token → List Token
front_until stop [] = []
front_until stop (t ∷ ts) = if nat_lt t.span.start stop then t ∷ front_until stop ts else t ∷ take 1 ts

-- Text without a backslash stands for itself.
use Rattle.std.proofs.Common.{ℕ, Bool, true, false, List, [], ◌∷◌, ◌≡◌, ◌==◌, ◌||◌, if◌then◌else◌, ap, refl}
use Rattle.std.specs.List.{list_any}
use Rattle.kx_lex.specs.Strings.{text_value}
use Rattle.kx_lex.specs.declared.string.EscapeState.TheVariants.{Plain, Escaped}

pub text_value-plain : (bytes : List ℕ) → list_any (λ b. b == 92) bytes ≡ false → text_value Plain bytes ≡ bytes
text_value-plain [] h = refl
text_value-plain (b ∷ bytes) h = go (b == 92) refl h (λ w. text_value-plain bytes w)
  where
    go : (found : Bool) → (b == 92) ≡ found → (found || list_any (λ b. b == 92) bytes) ≡ false → (list_any (λ b. b == 92) bytes ≡ false → text_value Plain bytes ≡ bytes) → (if found then text_value Escaped bytes else b ∷ text_value Plain bytes) ≡ b ∷ bytes
    go true e w ih = cc
    go false e w ih = ap (λ (rest : List ℕ). b ∷ rest) (ih w)

pub ruleset plain_texts = (text_value-plain)

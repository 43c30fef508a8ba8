-- How values one after another are spelled.
use Rattle.std.specs.Prelude.{Bool, true, List, [], ◌∷◌, ◌≡◌}
use Rattle.kx_lex.specs.declared.token.Token.{Token}

-- values that stand at the front, one after another, each where the test holds
abbrev pub many_front : {A : Type 0} → (List Token → Bool) → (List Token → A → List Token → Type 0) → List A → List Token → List Token → Type 0
many_front test spells [] ts rest = ts ≡ rest
many_front test spells (x ∷ xs) ts rest = (test ts ≡ true) × (mid : List Token) × spells ts x mid × many_front test spells xs mid rest

-- What a value writes, byte by byte.
use Rattle.std.proofs.Common.{◌≡◌, ℕ, cond, List, [], ◌∷◌, ◌++◌, length, sym, ap, ◌∙◌, append_assoc, append-nil, option_to_list, eq-eqb, ne_eqb, arith}
use Rattle.kx_rules.specs.Names.{Names}
use Rattle.kx_rules.specs.Uses.{name_at, without_sign, written}
use Rattle.kx_rules.specs.declared.uses.Use.{Use}

pub written_none : (names : Names) (out : List Use) (rest : List ℕ) → length rest ≡ 0 → out ++ written names rest ≡ out
unfolding written
written_none names out [] h = append-nil out
written_none names out (b ∷ bs) h = absurd (omega (arith, h))

pub written_byte : (names : Names) (out : List Use) (b : ℕ) (bs : List ℕ) → (b ≡ 37 → ⊥) → out ++ written names bs ≡ out ++ written names (b ∷ bs)
unfolding written
written_byte names out b bs h = ap (λ t. out ++ (cond t (option_to_list (name_at names (without_sign bs))) [] ++ written names bs)) (sym (ne_eqb b 37 h))

pub written_sign : (names : Names) (out : List Use) (b : ℕ) (bs : List ℕ) → b ≡ 37 → (out ++ option_to_list (name_at names (without_sign bs))) ++ written names bs ≡ out ++ written names (b ∷ bs)
unfolding written
written_sign names out b bs h =
    append_assoc out (option_to_list (name_at names (without_sign bs))) (written names bs)
    ∙ ap (λ t. out ++ (cond t (option_to_list (name_at names (without_sign bs))) [] ++ written names bs)) (sym (eq-eqb b 37 h))

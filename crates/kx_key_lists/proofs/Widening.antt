-- A list that grows to a length.
use Rattle.std.proofs.Common.{◌≡◌, ℕ, ◌+◌, ◌<◌, suc, List, [], ◌∷◌, ◌++◌, length, replicate, ◌-◌, sym, ap, ◌∙◌, append_assoc, arith}
use Rattle.std.proofs.lemmas.List.{length-append}

pub widen_goes : {X : Type 0} (xs : List X) (x : X) (count : ℕ) → length xs < count → (xs ++ x ∷ []) ++ replicate (count - length (xs ++ x ∷ [])) x ≡ xs ++ replicate (count - length xs) x
widen_goes xs x count more =
    let longer : length (xs ++ x ∷ []) ≡ length xs + 1 = length-append xs (x ∷ []) in
    let one : count - length xs ≡ suc (count - length (xs ++ x ∷ [])) = omega (arith, longer, more) in
    append_assoc xs (x ∷ []) (replicate (count - length (xs ++ x ∷ [])) x) ∙ ap (λ n. xs ++ replicate n x) (sym one)

-- The names whose bits are set, name by name.
use Rattle.std.proofs.Common.{◌≡◌, ℕ, ◌+◌, ◌%◌, ◌/◌, ◌==◌, ◌<◌, cond, List, [], ◌∷◌, ◌++◌, Some, drop, length, get_or, slice_get, sym, ap, ◌∙◌, subst, append_assoc, append-nil}
use Rattle.std.proofs.lemmas.Bool.{eq-eqb, ne_eqb}
use Rattle.std.proofs.lemmas.Option.{slice_get-get_or}
use Rattle.kx_print.specs.Masks.{chosen}
use Rattle.kx_print.proofs.Rows.{drop-at}

-- of the names from an index on, those whose bits are set are still to be chosen
pub record ChosenSoFar (all : ℕ) (bits : ℕ) (names : List (List ℕ)) (index : ℕ) (done : List (List ℕ)) : Type 0 where
  pub split : chosen all names ≡ done ++ chosen bits (drop index names)

chosen_more : (all bits : ℕ) (names : List (List ℕ)) (index : ℕ) (name : List ℕ) (done : List (List ℕ)) → slice_get names index ≡ Some name → ChosenSoFar all bits names index done
    → ChosenSoFar all (bits / 2) names (index + 1) (done ++ cond (bits % 2 == 1) (name ∷ []) [])
chosen_more all bits names index name done at h =
    record { split = h.split ∙ ap (λ ns. done ++ chosen bits ns) (drop-at names index name at) ∙ sym (append_assoc done (cond (bits % 2 == 1) (name ∷ []) []) (chosen (bits / 2) (drop (index + 1) names))) }

-- the bit of the name at the index is set
pub chosen_yes : (all bits : ℕ) (names : List (List ℕ)) (index : ℕ) (name : List ℕ) (done : List (List ℕ)) → slice_get names index ≡ Some name → bits % 2 ≡ 1 → ChosenSoFar all bits names index done
    → ChosenSoFar all (bits / 2) names (index + 1) (done ++ name ∷ [])
chosen_yes all bits names index name done at set h =
    subst (λ b. ChosenSoFar all (bits / 2) names (index + 1) (done ++ cond b (name ∷ []) [])) (eq-eqb (bits % 2) 1 set) (chosen_more all bits names index name done at h)

-- it isn't
pub chosen_no : (all bits : ℕ) (names : List (List ℕ)) (index : ℕ) (done : List (List ℕ)) → index < length names → (bits % 2 ≡ 1 → ⊥) → ChosenSoFar all bits names index done
    → ChosenSoFar all (bits / 2) names (index + 1) done
chosen_no all bits names index done within clear h =
    let name = get_or names index [] in
    let more = chosen_more all bits names index name done (slice_get-get_or names index [] within) h in
    subst (λ ns. ChosenSoFar all (bits / 2) names (index + 1) ns) (append-nil done)
    (subst (λ b. ChosenSoFar all (bits / 2) names (index + 1) (done ++ cond b (name ∷ []) [])) (ne_eqb (bits % 2) 1 clear) more)

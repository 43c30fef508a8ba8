-- Records that are given, as offers: none, and one where its key is known.
use Rattle.std.proofs.Common.{◌≡◌, ℕ, List, [], ◌∷◌, Option, None, Some, Result, Ok, Err, IfOk, refl, subst, sym}
use Rattle.std.specs.Option.{option_map_or}
use Rattle.kx_merge.specs.Offers.{Offer, offers_to}
use Rattle.kx_merge.specs.Records.{Form, AreOffered, IsOffered, none, more}
use Rattle.kx_tree.specs.declared.tree.Mode.{Mode}

module _ {K C V R : Type 0} (form : Form R C V) (mode : Mode) where
  abbrev Offered : List (K × R) → List (Offer K C V) → Type 0
  Offered records os = AreOffered {K = K} {C = C} {V = V} {R = R} mode form records os

  pub nothing_offered : (items : List (K × R)) → items ≡ [] → AreOffered {K = K} {C = C} {V = V} {R = R} mode form items []
  nothing_offered items e = subst (λ xs. Offered xs []) (sym e) none

  pub one_offered : (key : K) (r : R) (o : Offer K C V) (items : List (K × R)) → items ≡ (key, r) ∷ [] → IsOffered mode form key r o → AreOffered mode form items (o ∷ [])
  one_offered key r o items e one = subst (λ xs. Offered xs (o ∷ [])) (sym e) (more one none)

  module _ (no_groups : (r : R) (g : ℕ) → 0 ≡ form.width r g) where
    one_or_none : (key : Option K) (r : R) → Offered (option_map_or (λ k. (k, r) ∷ []) key []) (offers_to form.cell mode r key)
    one_or_none None r = none
    one_or_none (Some k) r = more (record { mode_is = refl; name_is = refl; value_is = λ c. refl; width_is = no_groups r }) none

    -- a record without groups, and the offers of what is equal to it
    pub given_offered : {X E : Type 0} (items : X → List (K × R)) (answer : Result X E) (key sought : Option K) (r given : R) → key ≡ sought → r ≡ given
        → IfOk answer (λ x. items x ≡ option_map_or (λ k. (k, r) ∷ []) key []) → IfOk answer (λ x. AreOffered mode form (items x) (offers_to form.cell mode given sought))
    given_offered items (Ok x) key sought r given keys records is =
        subst (λ s. Offered (items x) (offers_to form.cell mode given s)) keys
        (subst (λ w. Offered (items x) (offers_to form.cell mode w key)) records
        (subst (λ xs. Offered xs (offers_to form.cell mode r key)) (sym is) (one_or_none key r)))
    given_offered items (Err e) key sought r given keys records is = is

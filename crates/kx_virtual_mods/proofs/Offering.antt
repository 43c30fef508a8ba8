-- Records of offers, one after another.
use Rattle.std.proofs.Common.{◌≡◌, ℕ, ◌+◌, ◌<◌, List, [], ◌∷◌, ◌++◌, length, get_or, map, take, ap, refl, sym, subst, ◌∙◌}
use Rattle.std.proofs.lemmas.List.{map-append, take_more}
use Rattle.kx_tree.specs.declared.tree.Mode.{Mode}
use Rattle.kx_merge.specs.Offers.{Offer}
use Rattle.kx_merge.specs.Records.{AreOffered, IsOffered, none, more}
use Rattle.kx_merge.specs.Single.{single_form}
use Rattle.kx_merge.specs.declared.single.Single.{Single}
use Rattle.kx_virtual_mods.specs.Declarations.{Given, mask_offer}

abbrev pub Offered : Mode → List (ℕ × Single ℕ) → List (Offer ℕ (Unit {0}) ℕ) → Type 0
Offered mode records os = AreOffered {K = ℕ} {C = Unit {0}} {V = ℕ} mode single_form records os

pub nothing_offered : (mode : Mode) (records : List (ℕ × Single ℕ)) → records ≡ [] → Offered mode records []
nothing_offered mode records e = subst (λ xs. Offered mode xs []) (sym e) none

push-offered : (mode : Mode) (records : List (ℕ × Single ℕ)) (os : List (Offer ℕ (Unit {0}) ℕ)) (given : List Given) (number : ℕ) (d : Single ℕ) → Offered mode records os → IsOffered {K = ℕ} {C = Unit {0}} {V = ℕ} mode single_form number d (mask_offer mode given number)
    → Offered mode (records ++ (number, d) ∷ []) (os ++ mask_offer mode given number ∷ [])
push-offered mode [] [] given number d none is = more is none
push-offered mode [] (o ∷ os) given number d are is = elim are [ ]
push-offered mode (r ∷ records) [] given number d are is = elim are [ ]
push-offered mode (r ∷ records) (o ∷ os) given number d (more first rest) is = more first (push-offered mode records os given number d rest is)

pub next_offered : (mode : Mode) (records new : List (ℕ × Single ℕ)) (given : List Given) (numbers : List ℕ) (i number : ℕ) (d : Single ℕ) → i < length numbers → number ≡ get_or numbers i number → Offered mode records (map (mask_offer mode given) (take i numbers))
    → new ≡ records ++ (number, d) ∷ [] → ((c : Unit {0}) → (mask_offer mode given number).value c ≡ d.value) → Offered mode new (map (mask_offer mode given) (take (i + 1) numbers))
next_offered mode records new given numbers i number d within is are pushed same =
    let one : IsOffered {K = ℕ} {C = Unit {0}} {V = ℕ} mode single_form number d (mask_offer mode given number) = record { mode_is = refl; name_is = refl; value_is = same; width_is = λ g. refl } in
    subst (λ xs. Offered mode xs (map (mask_offer mode given) (take (i + 1) numbers))) (sym pushed)
    (subst (Offered mode (records ++ (number, d) ∷ [])) (sym (ap (map (mask_offer mode given)) (take_more numbers i number within ∙ ap (λ n. take i numbers ++ n ∷ []) (sym is)) ∙ map-append (mask_offer mode given) (take i numbers) (number ∷ [])))
    (push-offered mode records (map (mask_offer mode given) (take i numbers)) given number d are one))

-- What the statements of a section offer, and what a record has that is offered something once.
use Rattle.std.proofs.Common.{◌≡◌, ℕ, zero, suc, Bool, true, false, ◌||◌, List, [], ◌∷◌, ◌++◌, map, slice_get, Some, refl, sym, ap, ap₂, ◌∙◌, subst, append_assoc, ◌≢◌}
use Rattle.std.proofs.lemmas.Bool.{false_from_ne_true}
use Rattle.std.specs.List.{flat_map, list_any}
use Rattle.kx_include.specs.Expansion.{Body}
use Rattle.kx_include.specs.declared.place.Place.{Place}
use Rattle.kx_lex.specs.declared.fault.Fault.{Fault}
use Rattle.kx_merge.specs.Bodies.{Rules, Moves, offers, faults}
use Rattle.kx_merge.specs.Offers.{Offer, value_of}
use Rattle.kx_tree.specs.declared.tree.Stated.{Stated}
use Rattle.kx_tree.specs.declared.tree.Mode.TheVariants.{Override}
use Rattle.roundtrip_text.specs.Source.{EachOf, AreApart}
use Rattle.roundtrip_tree.specs.Shows.{AreShown, none, more}
use Rattle.roundtrip_meaning.specs.Bodies.{own_body}
use Rattle.roundtrip_meaning.proofs.Single.{AllOverride, value_here, value_past}

-- ---- Offers and faults; the defaults stay

module _ {K C V D X : Type 0} (eq : K → K → Bool) (rules : Rules K C V D) (moves : Moves K C) (Is : X → Stated → Type 0) (gives : X → List (Offer K C V)) (d : D) (place : Place)
    (each : (x : X) (item : Stated) → Is x item → rules.offers d place item ≡ gives x) (stays : (x : X) (item : Stated) → Is x item → rules.next d item ≡ d) where
  pub offers_shown : (xs : List X) (is : List Stated) (rest : Body) → AreShown Is xs is → offers eq rules moves d (own_body place is rest) ≡ flat_map gives xs ++ offers eq rules moves d rest
  offers_shown [] [] rest none = refl
  offers_shown [] (i ∷ is) rest are = elim are [ ]
  offers_shown (x ∷ xs) [] rest are = elim are [ ]
  offers_shown (x ∷ xs) (i ∷ is) rest (more one are) =
      ap₂ (λ os e. os ++ offers eq rules moves e (own_body place is rest)) (each x i one) (stays x i one)
      ∙ ap (λ os. gives x ++ os) (offers_shown xs is rest are)
      ∙ sym (append_assoc (gives x) (flat_map gives xs) (offers eq rules moves d rest))

module _ {K C V D X : Type 0} (eq : K → K → Bool) (rules : Rules K C V D) (moves : Moves K C) (Is : X → Stated → Type 0) (d : D) (place : Place)
    (each : (x : X) (item : Stated) → Is x item → rules.faults d place item ≡ []) (stays : (x : X) (item : Stated) → Is x item → rules.next d item ≡ d) where
  pub faults_shown : (xs : List X) (is : List Stated) (rest : Body) → AreShown Is xs is → faults eq rules moves d (own_body place is rest) ≡ faults eq rules moves d rest
  faults_shown [] [] rest none = refl
  faults_shown [] (i ∷ is) rest are = elim are [ ]
  faults_shown (x ∷ xs) [] rest are = elim are [ ]
  faults_shown (x ∷ xs) (i ∷ is) rest (more one are) =
      ap₂ (λ (fs : List Fault) e. fs ++ faults eq rules moves e (own_body place is rest)) (each x i one) (stays x i one) ∙ faults_shown xs is rest are

-- each that is shown keeps what each of them keeps
pub shown_with : {X A : Type 0} (P : X → Type 0) (Is : X → A → Type 0) (xs : List X) (ys : List A) → EachOf P xs → AreShown Is xs ys → AreShown (λ x a. P x × Is x a) xs ys
shown_with P Is [] [] each none = none
shown_with P Is [] (y ∷ ys) each are = elim are [ ]
shown_with P Is (x ∷ xs) [] each are = elim are [ ]
shown_with P Is (x ∷ xs) (y ∷ ys) each (more one are) = more (each.0, one) (shown_with P Is xs ys each.1 are)

-- what holds of each place holds of each
pub each_from : {X : Type 0} (P : X → Type 0) (xs : List X) → ((i : ℕ) (x : X) → slice_get xs i ≡ Some x → P x) → EachOf P xs
each_from P [] at = tt
each_from P (x ∷ xs) at = (at 0 x refl, each_from P xs (λ i y is. at (suc i) y is))

pub each_at : {X : Type 0} (P : X → Type 0) (xs : List X) (i : ℕ) (x : X) → EachOf P xs → slice_get xs i ≡ Some x → P x
each_at P [] i x each is = cc
each_at P (y ∷ ys) zero x each is = let here : y ≡ x = cc in subst P here each.0
each_at P (y ∷ ys) (suc i) x each is = each_at P ys i x each.1 is

-- ---- A record of its own for each

module _ {K C V X : Type 0} (eq : K → K → Bool) (same : (a b : K) → eq a b ≡ true → a ≡ b) (itself : (a : K) → eq a a ≡ true) (offer : X → Offer K C V) (override : (x : X) → (offer x).mode ≡ Override) where
  abbrev name_of : X → K
  name_of x = (offer x).name

  all_override : (xs : List X) → AllOverride eq (map offer xs)
  all_override [] = tt
  all_override (x ∷ xs) = (override x, all_override xs)

  differs : (a b : K) → a ≢ b → eq a b ≡ false
  differs a b other = false_from_ne_true (eq a b) (λ is. other (same a b is))

  not_about : (k : K) (xs : List X) → EachOf (λ x. k ≢ name_of x) xs → list_any (λ (o : Offer K C V). eq k o.name) (map offer xs) ≡ false
  not_about k [] each = refl
  not_about k (x ∷ xs) each = ap₂ (λ a b. a || b) (differs k (name_of x) each.0) (not_about k xs each.1)

  -- the record of one of them has what that offers
  pub value_of_one : (xs : List X) (i : ℕ) (x : X) (c : C) → AreApart name_of xs → slice_get xs i ≡ Some x → value_of eq (map offer xs) (name_of x) c ≡ (offer x).value c
  value_of_one [] i x c apart is = cc
  value_of_one (y ∷ ys) zero x c apart is =
      let here : y ≡ x = cc in
      ap (λ z. value_of eq (map offer (y ∷ ys)) (name_of z) c) (sym here)
      ∙ value_here eq (offer y) (map offer ys) (name_of y) c (override y, all_override ys) (itself (name_of y)) (not_about (name_of y) ys apart.0)
      ∙ ap (λ z. (offer z).value c) here
  value_of_one (y ∷ ys) (suc i) x c apart is =
      value_past eq (offer y) (map offer ys) (name_of x) c (differs (name_of x) (name_of y) (λ e. each_at (λ z. name_of y ≢ name_of z) ys i x apart.0 is (sym e)))
      ∙ value_of_one ys i x c apart.1 is

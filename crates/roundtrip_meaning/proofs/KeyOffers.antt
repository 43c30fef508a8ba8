-- The values of records that are each offered something once.
use Rattle.std.proofs.Common.{◌≡◌, ℕ, ◌+◌, ◌<◌, max, nat_eq, Bool, true, false, not, cond, ◌&&◌, ◌||◌, List, [], ◌∷◌, refl, sym, ap, ap₂, ◌∙◌, arith}
use Rattle.std.proofs.lemmas.Bool.{ne_eqb, eq-eqb}
use Rattle.std.specs.List.{list_any}
use Rattle.kx_merge.specs.Offers.{Offer, is_about, is_hidden, seen, value_of, width_of, greatest}
use Rattle.kx_tree.specs.declared.tree.Mode.TheVariants.{Override}
use Rattle.roundtrip_meaning.proofs.Single.{AllOverride, value_here, value_past, not_hidden, not_seen}
use Rattle.roundtrip_text.specs.Source.{EachOf, AreRising}
use Rattle.roundtrip_tree.specs.Shows.{AreShown, none, more}

-- ---- Widths

module _ {K C V : Type 0} (eq : K → K → Bool) where
  width_past : (o : Offer K C V) (os : List (Offer K C V)) (k : K) (g : ℕ) → eq k o.name ≡ false → width_of eq (o ∷ os) k g ≡ width_of eq os k g
  width_past o os k g other = ap (λ t. greatest g (cond (t && not (is_hidden eq k os)) (o ∷ seen eq k os) (seen eq k os))) other

  width_here : (o : Offer K C V) (os : List (Offer K C V)) (k : K) (g : ℕ) → AllOverride eq (o ∷ os) → eq k o.name ≡ true → list_any (is_about eq k) os ≡ false → width_of eq (o ∷ os) k g ≡ o.width g
  width_here o os k g all here once =
      ap₂ (λ t h. greatest g (cond (t && not h) (o ∷ seen eq k os) (seen eq k os))) here (not_hidden eq k os all.1)
      ∙ ap (λ (s : List (Offer K C V)). max (o.width g) (greatest g s)) (not_seen eq k os once) ∙ (let same : max (o.width g) 0 ≡ o.width g = omega arith in same)

-- ---- Records by rising numbers

module _ {X C V : Type 0} (code : X → ℕ) (P : X → Offer ℕ C V → Type 0) where
  -- an offer to the record of its number
  pub record IsOffered (x : X) (o : Offer ℕ C V) : Type 0 where
    pub mode_is : o.mode ≡ Override
    pub name_is : o.name ≡ code x
    pub says : P x o

  -- what the record of a thing has is what one offer gives it
  pub record HasOffer (os : List (Offer ℕ C V)) (x : X) : Type 0 where
    pub offer : Offer ℕ C V
    pub says : P x offer
    pub value_is : (c : C) → value_of nat_eq os (code x) c ≡ offer.value c
    pub width_is : (g : ℕ) → width_of nat_eq os (code x) g ≡ offer.width g

  all_override : (xs : List X) (os : List (Offer ℕ C V)) → AreShown IsOffered xs os → AllOverride nat_eq os
  all_override [] [] none = tt
  all_override [] (o ∷ os) are = elim are [ ]
  all_override (x ∷ xs) [] are = elim are [ ]
  all_override (x ∷ xs) (o ∷ os) (more one are) = (one.mode_is, all_override xs os are)

  no_other : (n low : ℕ) (xs : List X) (os : List (Offer ℕ C V)) → n < low → AreRising code low xs → AreShown IsOffered xs os → list_any (is_about nat_eq n) os ≡ false
  no_other n low [] [] below rising none = refl
  no_other n low [] (o ∷ os) below rising are = elim are [ ]
  no_other n low (x ∷ xs) [] below rising are = elim are [ ]
  no_other n low (x ∷ xs) (o ∷ os) below rising (more one are) =
      let above = rising.0 in
      let here = one.name_is in
      ap₂ (λ a b. a || b) (ne_eqb n o.name (λ e. omega (arith, above, here, e))) (no_other n (code x + 1) xs os (omega (arith, above)) rising.1 are)

  past : (o : Offer ℕ C V) (os : List (Offer ℕ C V)) (low : ℕ) (xs : List X) → o.name < low → AreRising code low xs → EachOf (HasOffer os) xs → EachOf (HasOffer (o ∷ os)) xs
  past o os low [] below rising each = tt
  past o os low (x ∷ xs) below rising each =
      let above = rising.0 in
      let h = each.0 in
      let other : nat_eq (code x) o.name ≡ false = ne_eqb (code x) o.name (λ e. omega (arith, above, e)) in (
        record { offer = h.offer; says = h.says; value_is = λ c. value_past nat_eq o os (code x) c other ∙ h.value_is c; width_is = λ g. width_past nat_eq o os (code x) g other ∙ h.width_is g },
        past o os (code x + 1) xs (omega (arith, above)) rising.1 each.1,
      )

  pub each_offered : (low : ℕ) (xs : List X) (os : List (Offer ℕ C V)) → AreRising code low xs → AreShown IsOffered xs os → EachOf (HasOffer os) xs
  each_offered low [] [] rising none = tt
  each_offered low [] (o ∷ os) rising are = elim are [ ]
  each_offered low (x ∷ xs) [] rising are = elim are [ ]
  each_offered low (x ∷ xs) (o ∷ os) rising (more one are) =
      let named = one.name_is in
      let here : nat_eq (code x) o.name ≡ true = eq-eqb (code x) o.name (sym named) in
      let once = no_other (code x) (code x + 1) xs os (omega arith) rising.1 are in
      let all = all_override (x ∷ xs) (o ∷ os) (more one are) in (
        record { offer = o; says = one.says; value_is = λ c. value_here nat_eq o os (code x) c all here once; width_is = λ g. width_here nat_eq o os (code x) g all here once },
        past o os (code x + 1) xs (omega (arith, named)) rising.1 (each_offered (code x + 1) xs os rising.1 are),
      )

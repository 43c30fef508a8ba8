-- The value of a cell where each record is offered something once, and nothing augments or replaces.
use Rattle.std.proofs.Common.{◌≡◌, Bool, true, false, not, cond, ◌&&◌, ◌||◌, List, [], ◌∷◌, Option, None, Some, refl, ap, ap₂, ◌∙◌}
use Rattle.std.specs.List.{list_any}
use Rattle.std.specs.Option.{option_or}
use Rattle.kx_merge.specs.Offers.{Offer, is_about, is_hidden, is_replace, is_strong, seen, last_strong, first_weak, value_of}
use Rattle.kx_tree.specs.declared.tree.Mode.TheVariants.{Override}

or_none : {V : Type 0} (v : Option V) → option_or v None ≡ v
or_none None = refl
or_none (Some v) = refl

module _ {K C V : Type 0} (eq : K → K → Bool) where
  abbrev pub AllOverride : List (Offer K C V) → Type 0
  AllOverride [] = Unit {0}
  AllOverride (o ∷ os) = (o.mode ≡ Override) × AllOverride os

  pub not_hidden : (k : K) (os : List (Offer K C V)) → AllOverride os → is_hidden eq k os ≡ false
  not_hidden k [] all = refl
  not_hidden k (o ∷ os) all = ap₂ (λ a b. a || b) (by (is_about eq k o)) (not_hidden k os all.1)
    where
      by : (t : Bool) → (t && is_replace o.mode) ≡ false
      by true = ap is_replace all.0
      by false = refl

  pub not_seen : (k : K) (os : List (Offer K C V)) → list_any (is_about eq k) os ≡ false → seen eq k os ≡ []
  not_seen k [] h = refl
  not_seen k (o ∷ os) h = by (is_about eq k o) h (not_seen k os)
    where
      by : (t : Bool) → (t || list_any (is_about eq k) os) ≡ false → (list_any (is_about eq k) os ≡ false → seen eq k os ≡ []) → cond (t && not (is_hidden eq k os)) (o ∷ seen eq k os) (seen eq k os) ≡ []
      by true h rest = cc
      by false h rest = rest h

  -- the record is that of another offer
  pub value_past : (o : Offer K C V) (os : List (Offer K C V)) (k : K) (c : C) → eq k o.name ≡ false → value_of eq (o ∷ os) k c ≡ value_of eq os k c
  value_past o os k c other = ap (λ t. let s = cond (t && not (is_hidden eq k os)) (o ∷ seen eq k os) (seen eq k os) in option_or (last_strong c s) (first_weak c s)) other

  alone : (o : Offer K C V) (os : List (Offer K C V)) (k : K) → AllOverride (o ∷ os) → eq k o.name ≡ true → list_any (is_about eq k) os ≡ false → seen eq k (o ∷ os) ≡ o ∷ []
  alone o os k all here once = ap₂ (λ t h. cond (t && not h) (o ∷ seen eq k os) (seen eq k os)) here (not_hidden k os all.1) ∙ ap (λ s. o ∷ s) (not_seen k os once)

  -- it is that of the first
  pub value_here : (o : Offer K C V) (os : List (Offer K C V)) (k : K) (c : C) → AllOverride (o ∷ os) → eq k o.name ≡ true → list_any (is_about eq k) os ≡ false → value_of eq (o ∷ os) k c ≡ o.value c
  value_here o os k c all here once =
      ap (λ s. option_or (last_strong c s) (first_weak c s)) (alone o os k all here once)
      ∙ ap (λ t. let v : Option V = option_or (option_or None (cond t (o.value c) None)) (option_or (cond t None (o.value c)) None) in v) (ap is_strong all.0)
      ∙ or_none (o.value c)

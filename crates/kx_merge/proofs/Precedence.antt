-- What one more offer makes of the values, the widths and the names.
use Rattle.std.proofs.Common.{◌≡◌, ℕ, Bool, true, false, not, ◌&&◌, ◌||◌, cond, max, List, [], ◌∷◌, ◌++◌, Option, None, Some, refl, sym, ap, ◌∙◌, arith}
use mathlib.Core.Bool.{or-false, or-true}
use Rattle.std.specs.Option.{option_or}
use Rattle.kx_tree.specs.declared.tree.Mode.{Mode}
use Rattle.kx_tree.specs.declared.tree.Mode.TheVariants.{Augment, Override, Replace}
use Rattle.kx_merge.specs.Offers.{Offer, merged_value, merged_width, is_replace, is_strong, is_about, is_hidden, seen, last_strong, first_weak, value_of, greatest, width_of, with_name, names_behind, names_of}

pub option_or-assoc : {X : Type 0} (a b c : Option X) → option_or (option_or a b) c ≡ option_or a (option_or b c)
option_or-assoc (Some x) b c = refl
option_or-assoc None b c = refl

option_or-none : {X : Type 0} (a : Option X) → option_or a None ≡ a
option_or-none (Some x) = refl
option_or-none None = refl

and-false : (b : Bool) → (b && false) ≡ false
and-false true = refl
and-false false = refl

max-assoc : (a b c : ℕ) → max (max a b) c ≡ max a (max b c)
max-assoc a b c = omega arith

max-none : (a : ℕ) → max a 0 ≡ a
max-none a = omega arith

module _ {K C V : Type 0} (c : C) (o : Offer K C V) where
  last_strong-more : (os : List (Offer K C V)) → last_strong c (os ++ o ∷ []) ≡ option_or (cond (is_strong o.mode) (o.value c) None) (last_strong c os)
  last_strong-more [] = sym (option_or-none (cond (is_strong o.mode) (o.value c) None))
  last_strong-more (p ∷ os) = ap (λ v. option_or v (cond (is_strong p.mode) (p.value c) None)) (last_strong-more os) ∙ option_or-assoc (cond (is_strong o.mode) (o.value c) None) (last_strong c os) (cond (is_strong p.mode) (p.value c) None)

  first_weak-more : (os : List (Offer K C V)) → first_weak c (os ++ o ∷ []) ≡ option_or (first_weak c os) (cond (is_strong o.mode) None (o.value c))
  first_weak-more [] = option_or-none (cond (is_strong o.mode) None (o.value c))
  first_weak-more (p ∷ os) = ap (option_or (cond (is_strong p.mode) None (p.value c))) (first_weak-more os) ∙ sym (option_or-assoc (cond (is_strong p.mode) None (p.value c)) (first_weak c os) (cond (is_strong o.mode) None (o.value c)))

  -- the value of offers with one more after them
  value-step : (m : Mode) → o.mode ≡ m → is_replace m ≡ false → (os : List (Offer K C V)) → option_or (last_strong c (os ++ o ∷ [])) (first_weak c (os ++ o ∷ [])) ≡ merged_value m (option_or (last_strong c os) (first_weak c os)) (o.value c)
  value-step Augment e r os =
      let strong : cond (is_strong o.mode) (o.value c) None ≡ None = ap (λ n. cond (is_strong n) (o.value c) None) e in
      let weak : cond (is_strong o.mode) None (o.value c) ≡ o.value c = ap (λ n. cond (is_strong n) None (o.value c)) e in
      ap (λ v. option_or v (first_weak c (os ++ o ∷ []))) (last_strong-more os ∙ ap (λ v. option_or v (last_strong c os)) strong)
      ∙ ap (option_or (last_strong c os)) (first_weak-more os ∙ ap (option_or (first_weak c os)) weak)
      ∙ sym (option_or-assoc (last_strong c os) (first_weak c os) (o.value c))
  value-step Override e r os =
      let strong : cond (is_strong o.mode) (o.value c) None ≡ o.value c = ap (λ n. cond (is_strong n) (o.value c) None) e in
      let weak : cond (is_strong o.mode) None (o.value c) ≡ None = ap (λ n. cond (is_strong n) None (o.value c)) e in
      ap (λ v. option_or v (first_weak c (os ++ o ∷ []))) (last_strong-more os ∙ ap (λ v. option_or v (last_strong c os)) strong)
      ∙ ap (option_or (option_or (o.value c) (last_strong c os))) (first_weak-more os ∙ ap (option_or (first_weak c os)) weak ∙ option_or-none (first_weak c os))
      ∙ option_or-assoc (o.value c) (last_strong c os) (first_weak c os)
  value-step Replace e r os = cc

module _ {K C V : Type 0} (g : ℕ) (o : Offer K C V) where
  greatest-more : (os : List (Offer K C V)) → greatest g (os ++ o ∷ []) ≡ max (greatest g os) (o.width g)
  greatest-more [] = omega arith
  greatest-more (p ∷ os) = ap (max (p.width g)) (greatest-more os) ∙ sym (max-assoc (p.width g) (greatest g os) (o.width g))

module _ {K C V : Type 0} (eq : K → K → Bool) (k : K) (o : Offer K C V) where
  hidden-more : (os : List (Offer K C V)) → is_hidden eq k (os ++ o ∷ []) ≡ (is_hidden eq k os || (is_about eq k o && is_replace o.mode))
  hidden-more [] = or-false (is_about eq k o && is_replace o.mode)
  hidden-more (p ∷ os) = by (is_about eq k p && is_replace p.mode) (hidden-more os)
    where
      by : (b : Bool) → is_hidden eq k (os ++ o ∷ []) ≡ (is_hidden eq k os || (is_about eq k o && is_replace o.mode)) → (b || is_hidden eq k (os ++ o ∷ [])) ≡ ((b || is_hidden eq k os) || (is_about eq k o && is_replace o.mode))
      by true inside = refl
      by false inside = inside

  still-hidden : (os : List (Offer K C V)) → (is_about eq k o && is_replace o.mode) ≡ false → is_hidden eq k (os ++ o ∷ []) ≡ is_hidden eq k os
  still-hidden os h = hidden-more os ∙ ap (λ b. is_hidden eq k os || b) h ∙ or-false (is_hidden eq k os)

  -- one about another record
  seen-other : is_about eq k o ≡ false → (os : List (Offer K C V)) → seen eq k (os ++ o ∷ []) ≡ seen eq k os
  seen-other h [] = ap (λ b. cond (b && true) (o ∷ []) []) h
  seen-other h (p ∷ os) =
      let same = still-hidden os (ap (λ b. b && is_replace o.mode) h) in
      ap (λ b. cond (is_about eq k p && not b) (p ∷ seen eq k (os ++ o ∷ [])) (seen eq k (os ++ o ∷ []))) same ∙ ap (λ rest. cond (is_about eq k p && not (is_hidden eq k os)) (p ∷ rest) rest) (seen-other h os)

  -- one that hides nothing
  seen-kept : is_about eq k o ≡ true → is_replace o.mode ≡ false → (os : List (Offer K C V)) → seen eq k (os ++ o ∷ []) ≡ seen eq k os ++ o ∷ []
  seen-kept h r [] = ap (λ b. cond (b && true) (o ∷ []) []) h
  seen-kept h r (p ∷ os) =
      let same = still-hidden os (ap (λ b. is_about eq k o && b) r ∙ and-false (is_about eq k o)) in
      ap (λ b. cond (is_about eq k p && not b) (p ∷ seen eq k (os ++ o ∷ [])) (seen eq k (os ++ o ∷ []))) same
      ∙ ap (λ rest. cond (is_about eq k p && not (is_hidden eq k os)) (p ∷ rest) rest) (seen-kept h r os)
      ∙ split (is_about eq k p && not (is_hidden eq k os)) p (seen eq k os)
    where
      split : (b : Bool) (p : Offer K C V) (xs : List (Offer K C V)) → cond b (p ∷ (xs ++ o ∷ [])) (xs ++ o ∷ []) ≡ cond b (p ∷ xs) xs ++ o ∷ []
      split true p xs = refl
      split false p xs = refl

  -- one that hides all before it
  seen-replaced : is_about eq k o ≡ true → is_replace o.mode ≡ true → (os : List (Offer K C V)) → seen eq k (os ++ o ∷ []) ≡ o ∷ []
  seen-replaced h r [] = ap (λ b. cond (b && true) (o ∷ []) []) h
  seen-replaced h r (p ∷ os) =
      let hides : is_hidden eq k (os ++ o ∷ []) ≡ true = hidden-more os ∙ ap (λ b. is_hidden eq k os || (b && is_replace o.mode)) h ∙ ap (λ b. is_hidden eq k os || b) r ∙ or-true (is_hidden eq k os) in
      ap (λ b. cond (is_about eq k p && not b) (p ∷ seen eq k (os ++ o ∷ [])) (seen eq k (os ++ o ∷ []))) hides
      ∙ ap (λ b. cond b (p ∷ seen eq k (os ++ o ∷ [])) (seen eq k (os ++ o ∷ []))) (and-false (is_about eq k p))
      ∙ seen-replaced h r os

  -- of another record the value and the widths stay
  pub value-other : is_about eq k o ≡ false → (os : List (Offer K C V)) (c : C) → value_of eq (os ++ o ∷ []) k c ≡ value_of eq os k c
  value-other h os c = ap (λ xs. option_or (last_strong c xs) (first_weak c xs)) (seen-other h os)

  pub width-other : is_about eq k o ≡ false → (os : List (Offer K C V)) (g : ℕ) → width_of eq (os ++ o ∷ []) k g ≡ width_of eq os k g
  width-other h os g = ap (greatest g) (seen-other h os)

  -- of its record they are taken by its mode
  pub value-more : (m : Mode) → o.mode ≡ m → is_about eq k o ≡ true → (os : List (Offer K C V)) (c : C) → value_of eq (os ++ o ∷ []) k c ≡ merged_value m (value_of eq os k c) (o.value c)
  value-more Augment e h os c = ap (λ xs. option_or (last_strong c xs) (first_weak c xs)) (seen-kept h (ap is_replace e) os) ∙ value-step c o Augment e refl (seen eq k os)
  value-more Override e h os c = ap (λ xs. option_or (last_strong c xs) (first_weak c xs)) (seen-kept h (ap is_replace e) os) ∙ value-step c o Override e refl (seen eq k os)
  value-more Replace e h os c =
      ap (λ xs. option_or (last_strong c xs) (first_weak c xs)) (seen-replaced h (ap is_replace e) os)
      ∙ ap (λ n. option_or (option_or None (cond (is_strong n) (o.value c) None)) (option_or (cond (is_strong n) None (o.value c)) None)) e
      ∙ option_or-none (o.value c)

  pub width-more : (m : Mode) → o.mode ≡ m → is_about eq k o ≡ true → (os : List (Offer K C V)) (g : ℕ) → width_of eq (os ++ o ∷ []) k g ≡ merged_width m (width_of eq os k g) (o.width g)
  width-more Augment e h os g = ap (greatest g) (seen-kept h (ap is_replace e) os) ∙ greatest-more g o (seen eq k os)
  width-more Override e h os g = ap (greatest g) (seen-kept h (ap is_replace e) os) ∙ greatest-more g o (seen eq k os)
  width-more Replace e h os g = ap (greatest g) (seen-replaced h (ap is_replace e) os) ∙ max-none (o.width g)

pub names_behind-append : {K C V : Type 0} (eq : K → K → Bool) (ks : List K) (os ps : List (Offer K C V)) → names_behind eq ks (os ++ ps) ≡ names_behind eq (names_behind eq ks os) ps
names_behind-append eq ks [] ps = refl
names_behind-append eq ks (o ∷ os) ps = names_behind-append eq (with_name eq ks o.name) os ps

pub names-more : {K C V : Type 0} (eq : K → K → Bool) (os : List (Offer K C V)) (o : Offer K C V) → names_of eq (os ++ o ∷ []) ≡ with_name eq (names_of eq os) o.name
names-more eq os o = names_behind-append eq [] os (o ∷ [])

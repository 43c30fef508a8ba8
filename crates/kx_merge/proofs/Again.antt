-- Offers of which no two are about one record, once more after themselves, change nothing.
use Rattle.std.proofs.Common.{◌≡◌, ℕ, Bool, true, false, ◌||◌, cond, List, [], ◌∷◌, ◌++◌, Option, None, Some, refl, sym, ap, ◌∙◌, arith}
use Rattle.std.proofs.lemmas.Bool.{false≢true, or_right, or_left}
use Rattle.std.specs.Cmp.{IsEquivalence}
use Rattle.std.specs.List.{list_any}
use Rattle.std.specs.Option.{option_or}
use Rattle.std.proofs.lemmas.List.{append-nil, append_assoc}
use Rattle.kx_tree.specs.declared.tree.Mode.{Mode}
use Rattle.kx_tree.specs.declared.tree.Mode.TheVariants.{Augment, Override, Replace}
use Rattle.kx_merge.specs.Offers.{Offer, merged_value, merged_width, is_about, value_of, width_of, with_name, names_behind, names_of}
use Rattle.kx_merge.specs.Bodies.{gathered}
use Rattle.kx_merge.specs.Records.{Form, Shows}
use Rattle.kx_merge.proofs.Precedence.{value-other, value-more, width-other, width-more, names_behind-append}
use Rattle.kx_merge.proofs.OnePart.{Apart, a_key, gathered-names-apart, names, or-first, or-last}

or-same : {X : Type 0} (a v : Option X) → option_or (option_or a v) v ≡ option_or a v
or-same (Some x) v = refl
or-same None (Some x) = refl
or-same None None = refl

or-again : {X : Type 0} (a v : Option X) → option_or v (option_or v a) ≡ option_or v a
or-again a (Some x) = refl
or-again a None = refl

pub merged-again : {X : Type 0} (m : Mode) (a v : Option X) → merged_value m (merged_value m a v) v ≡ merged_value m a v
merged-again Augment a v = or-same a v
merged-again Override a v = or-again a v
merged-again Replace a v = refl

pub width-again : (m : Mode) (a n : ℕ) → merged_width m (merged_width m a n) n ≡ merged_width m a n
width-again Augment a n = omega arith
width-again Override a n = omega arith
width-again Replace a n = refl

-- what offers make of something, one by one
module _ {K C V W : Type 0} (eq : K → K → Bool) (k : K) (step : Offer K C V → W → W) where
  abbrev pub behind : W → List (Offer K C V) → W
  behind w [] = w
  behind w (o ∷ os) = behind (cond (is_about eq k o) (step o w) w) os

  pub behind-away : (w : W) (os : List (Offer K C V)) → list_any (eq k) (names os) ≡ false → behind w os ≡ w
  behind-away w [] away = refl
  behind-away w (o ∷ os) away =
      ap (λ b. behind (cond b (step o w) w) os) (or-first (eq k o.name) (list_any (eq k) (names os)) away)
      ∙ behind-away w os (or-last (eq k o.name) (list_any (eq k) (names os)) away)

  module _ (same : (i j : K) → eq i j ≡ true → i ≡ j) (again : (o : Offer K C V) (w : W) → step o (step o w) ≡ step o w) where
    behind-again : (w : W) (os : List (Offer K C V)) → Apart eq (names os) → behind (behind w os) os ≡ behind w os
    behind-again w [] apart = refl
    behind-again w (o ∷ os) (a_key first rest) = by (eq k o.name) refl (λ v. behind-again v os rest)
      where
        by : (b : Bool) → eq k o.name ≡ b → ((v : W) → behind (behind v os) os ≡ behind v os) → behind (cond (is_about eq k o) (step o (behind (cond (is_about eq k o) (step o w) w) os)) (behind (cond (is_about eq k o) (step o w) w) os)) os ≡ behind (cond (is_about eq k o) (step o w) w) os
        by true e next =
            let away : list_any (eq k) (names os) ≡ false = ap (λ j. list_any (eq j) (names os)) (same k o.name e) ∙ first in
            let once : behind (step o w) os ≡ step o w = behind-away (step o w) os away in
            ap (λ b. behind (cond b (step o (behind (cond b (step o w) w) os)) (behind (cond b (step o w) w) os)) os) e
            ∙ ap (λ v. behind (step o v) os) once
            ∙ ap (λ v. behind v os) (again o w)
            ∙ sym (ap (λ b. behind (cond b (step o w) w) os) e)
        by false e next =
            ap (λ b. behind (cond b (step o (behind (cond b (step o w) w) os)) (behind (cond b (step o w) w) os)) os) e
            ∙ next w
            ∙ sym (ap (λ b. behind (cond b (step o w) w) os) e)

module _ {K C V : Type 0} (eq : K → K → Bool) (k : K) where
  unfoldable pub take : C → Offer K C V → Option V → Option V
  take c o v = merged_value o.mode v (o.value c)

  unfoldable pub widen : ℕ → Offer K C V → ℕ → ℕ
  widen g o n = merged_width o.mode n (o.width g)

  pub value-behind : (c : C) (os ps : List (Offer K C V)) → value_of eq (os ++ ps) k c ≡ behind eq k (take c) (value_of eq os k c) ps
  unfolding take
  value-behind c os [] = ap (λ xs. value_of eq xs k c) (append-nil os)
  value-behind c os (o ∷ ps) =
      ap (λ xs. value_of eq xs k c) (sym (append_assoc os (o ∷ []) ps)) ∙ value-behind c (os ++ o ∷ []) ps
      ∙ ap (λ v. behind eq k (take c) v ps) (by (is_about eq k o) refl)
    where
      by : (b : Bool) → is_about eq k o ≡ b → value_of eq (os ++ o ∷ []) k c ≡ cond (is_about eq k o) (merged_value o.mode (value_of eq os k c) (o.value c)) (value_of eq os k c)
      by true e = value-more eq k o o.mode refl e os c ∙ sym (ap (λ b. cond b (merged_value o.mode (value_of eq os k c) (o.value c)) (value_of eq os k c)) e)
      by false e = value-other eq k o e os c ∙ sym (ap (λ b. cond b (merged_value o.mode (value_of eq os k c) (o.value c)) (value_of eq os k c)) e)

  pub width-behind : (g : ℕ) (os ps : List (Offer K C V)) → width_of eq (os ++ ps) k g ≡ behind eq k (widen g) (width_of eq os k g) ps
  unfolding widen
  width-behind g os [] = ap (λ xs. width_of eq xs k g) (append-nil os)
  width-behind g os (o ∷ ps) =
      ap (λ xs. width_of eq xs k g) (sym (append_assoc os (o ∷ []) ps)) ∙ width-behind g (os ++ o ∷ []) ps
      ∙ ap (λ v. behind eq k (widen g) v ps) (by (is_about eq k o) refl)
    where
      by : (b : Bool) → is_about eq k o ≡ b → width_of eq (os ++ o ∷ []) k g ≡ cond (is_about eq k o) (merged_width o.mode (width_of eq os k g) (o.width g)) (width_of eq os k g)
      by true e = width-more eq k o o.mode refl e os g ∙ sym (ap (λ b. cond b (merged_width o.mode (width_of eq os k g) (o.width g)) (width_of eq os k g)) e)
      by false e = width-other eq k o e os g ∙ sym (ap (λ b. cond b (merged_width o.mode (width_of eq os k g) (o.width g)) (width_of eq os k g)) e)

-- names that are there
module _ {K : Type 0} (eq : K → K → Bool) (laws : IsEquivalence eq) where
  any-more : (j k : K) (ks : List K) → list_any (eq j) ks ≡ true → list_any (eq j) (ks ++ k ∷ []) ≡ true
  any-more j k [] h = absurd (false≢true h)
  any-more j k (x ∷ ks) h = by (eq j x) h (any-more j k ks)
    where
      by : (b : Bool) → (b || list_any (eq j) ks) ≡ true → (list_any (eq j) ks ≡ true → list_any (eq j) (ks ++ k ∷ []) ≡ true) → (b || list_any (eq j) (ks ++ k ∷ [])) ≡ true
      by true e next = refl
      by false e next = next e

  any-last : (k : K) (ks : List K) → list_any (eq k) (ks ++ k ∷ []) ≡ true
  any-last k [] = or_left (eq k k) false (laws.refl k)
  any-last k (x ∷ ks) = or_right (eq k x) (list_any (eq k) (ks ++ k ∷ [])) (any-last k ks)

  any-named : (j k : K) (ks : List K) → list_any (eq j) ks ≡ true → list_any (eq j) (with_name eq ks k) ≡ true
  any-named j k ks h = by (list_any (eq k) ks)
    where
      by : (b : Bool) → list_any (eq j) (cond b ks (ks ++ k ∷ [])) ≡ true
      by true = h
      by false = any-more j k ks h

  is-named : (k : K) (ks : List K) → list_any (eq k) (with_name eq ks k) ≡ true
  is-named k ks = by (list_any (eq k) ks) refl
    where
      by : (b : Bool) → list_any (eq k) ks ≡ b → list_any (eq k) (cond b ks (ks ++ k ∷ [])) ≡ true
      by true e = e
      by false e = any-last k ks

module _ {K C V : Type 0} (eq : K → K → Bool) (laws : IsEquivalence eq) where
  pub still-named : (j : K) (ks : List K) (os : List (Offer K C V)) → list_any (eq j) ks ≡ true → list_any (eq j) (names_behind eq ks os) ≡ true
  still-named j ks [] h = h
  still-named j ks (o ∷ os) h = still-named j (with_name eq ks o.name) os (any-named eq laws j o.name ks h)

  pub data Named (ks : List K) : List (Offer K C V) → Type 0 where
    no_name : Named ks []
    a_name : {o : Offer K C V} {os : List (Offer K C V)} → list_any (eq o.name) ks ≡ true → Named ks os → Named ks (o ∷ os)

  pub all-named : (ks : List K) (os : List (Offer K C V)) → Named (names_behind eq ks os) os
  all-named ks [] = no_name
  all-named ks (o ∷ os) = a_name (still-named o.name (with_name eq ks o.name) os (is-named eq laws o.name ks)) (all-named (with_name eq ks o.name) os)

  pub named-again : (ks : List K) (os : List (Offer K C V)) → Named ks os → names_behind eq ks os ≡ ks
  named-again ks [] no_name = refl
  named-again ks (o ∷ os) (a_name here rest) = ap (λ b. names_behind eq (cond b ks (ks ++ o.name ∷ [])) os) here ∙ named-again ks os rest

  names-again : (os g : List (Offer K C V)) → names_of eq ((os ++ g) ++ g) ≡ names_of eq (os ++ g)
  names-again os g =
      names_behind-append eq [] (os ++ g) g ∙ ap (λ ks. names_behind eq ks g) (names_behind-append eq [] os g)
      ∙ named-again (names_behind eq (names_behind eq [] os) g) g (all-named (names_behind eq [] os) g)
      ∙ sym (names_behind-append eq [] os g)

module _ {K C V R : Type 0} (form : Form R C V) (eq : K → K → Bool) (laws : IsEquivalence eq) (same : (i j : K) → eq i j ≡ true → i ≡ j) where
  shows-again : (ns : List K) (at : K → Option R) (os g : List (Offer K C V)) → Apart eq (names g) → Shows form eq ns at (os ++ g) → Shows form eq ns at ((os ++ g) ++ g)
  unfolding take widen
  shows-again ns at os g apart shows = record {
    names_are = shows.names_are ∙ sym (names-again eq laws os g);
    cells_are = λ k c. shows.cells_are k c ∙ sym (value-behind eq k c (os ++ g) g ∙ ap (λ v. behind eq k (take eq k c) v g) (value-behind eq k c os g) ∙ behind-again eq k (take eq k c) same (λ o w. merged-again o.mode w (o.value c)) (value_of eq os k c) g apart ∙ sym (value-behind eq k c os g));
    widths_are = λ k n. shows.widths_are k n ∙ sym (width-behind eq k n (os ++ g) g ∙ ap (λ v. behind eq k (widen eq k n) v g) (width-behind eq k n os g) ∙ behind-again eq k (widen eq k n) same (λ o w. width-again o.mode w (o.width n)) (width_of eq os k n) g apart ∙ sym (width-behind eq k n os g));
  }

  pub gathered_again : (ns : List K) (at : K → Option R) (mode : Mode) (os inner : List (Offer K C V)) → Shows form eq ns at (os ++ gathered eq mode inner) → Shows form eq ns at ((os ++ gathered eq mode inner) ++ gathered eq mode inner)
  gathered_again ns at mode os inner shows = shows-again ns at os (gathered eq mode inner) (gathered-names-apart eq laws mode inner) shows

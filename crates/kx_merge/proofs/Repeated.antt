-- Offers under override or replace, of which no two are about one record, may be left out where the same stand before them and
-- after.
use Rattle.std.proofs.Common.{◌≡◌, ℕ, Bool, true, false, cond, List, [], ◌∷◌, ◌++◌, map, Option, None, Some, refl, sym, ap, ◌∙◌, subst, arith}
use Rattle.std.proofs.lemmas.Bool.{false≢true}
use Rattle.std.specs.Cmp.{IsEquivalence}
use Rattle.std.specs.List.{list_any}
use Rattle.std.proofs.lemmas.List.{append_assoc}
use Rattle.kx_tree.specs.declared.tree.Mode.{Mode}
use Rattle.kx_tree.specs.declared.tree.Mode.TheVariants.{Augment, Override, Replace}
use Rattle.kx_merge.specs.Bodies.{gather, gathered}
use Rattle.kx_merge.specs.Offers.{Offer, is_about, is_strong, merged_value, merged_width, value_of, width_of, names_behind, names_of}
use Rattle.kx_merge.proofs.Again.{Named, no_name, a_name, all-named, behind, behind-away, named-again, still-named, take, merged-again, value-behind, widen, width-again, width-behind}
use Rattle.kx_merge.proofs.Precedence.{names_behind-append}
use Rattle.kx_merge.proofs.OnePart.{Apart, a_key, names, names-apart, names-of-gathered, no_key}

merged-keeps : {X : Type 0} (m n : Mode) → is_strong m ≡ true → (a b u v : Option X) → merged_value m a v ≡ merged_value m b v → merged_value m (merged_value n a u) v ≡ merged_value m (merged_value n b u) v
merged-keeps Augment n strong a b u v e = absurd (false≢true strong)
merged-keeps Override n strong a b u None e = ap (λ x. merged_value n x u) e
merged-keeps Override n strong a b u (Some x) e = refl
merged-keeps Replace n strong a b u v e = refl

width-keeps : (m n : Mode) → is_strong m ≡ true → (a b u v : ℕ) → merged_width m a v ≡ merged_width m b v → merged_width m (merged_width n a u) v ≡ merged_width m (merged_width n b u) v
width-keeps Augment n strong a b u v e = absurd (false≢true strong)
width-keeps Override Augment strong a b u v e = omega (arith, e)
width-keeps Override Override strong a b u v e = omega (arith, e)
width-keeps Override Replace strong a b u v e = refl
width-keeps Replace n strong a b u v e = refl

module _ {K C V W : Type 0} (eq : K → K → Bool) (k : K) (step : Offer K C V → W → W) where
  pub behind-append : (w : W) (os ps : List (Offer K C V)) → behind eq k step w (os ++ ps) ≡ behind eq k step (behind eq k step w os) ps
  behind-append w [] ps = refl
  behind-append w (o ∷ os) ps = behind-append (cond (is_about eq k o) (step o w) w) os ps

  -- offers do nothing to something, or what a single one does that overrides
  data Acts (xs : List (Offer K C V)) : Type 0 where
    idle : ((w : W) → behind eq k step w xs ≡ w) → Acts xs
    acts : (o : Offer K C V) → is_strong o.mode ≡ true → ((w : W) → behind eq k step w xs ≡ step o w) → Acts xs

  module _ (laws : IsEquivalence eq) (same : (i j : K) → eq i j ≡ true → i ≡ j) (mode : Mode) (strong : is_strong mode ≡ true) (inner : List (Offer K C V)) where
    acts-of : (ks : List K) → Apart eq ks → Acts (map (gather eq mode inner) ks)
    acts-of [] apart = idle (λ w. refl)
    acts-of (j ∷ ks) (a_key first rest) = by (eq k j) refl (acts-of ks rest)
      where
        tail : List (Offer K C V)
        tail = map (gather eq mode inner) ks

        one : Offer K C V
        one = gather eq mode inner j

        away : eq k j ≡ true → list_any (eq k) (names tail) ≡ false
        away e = ap (list_any (eq k)) (names-of-gathered eq laws mode inner ks) ∙ ap (λ i. list_any (eq i) ks) (same k j e) ∙ first

        by : (b : Bool) → eq k j ≡ b → Acts tail → Acts (one ∷ tail)
        by true e next = acts one strong (λ w. ap (λ b. behind eq k step (cond b (step one w) w) tail) e ∙ behind-away eq k step (step one w) tail (away e))
        by false e (idle is) = idle (λ w. ap (λ b. behind eq k step (cond b (step one w) w) tail) e ∙ is w)
        by false e (acts o s is) = acts o s (λ w. ap (λ b. behind eq k step (cond b (step one w) w) tail) e ∙ is w)

  module _ (again : (o : Offer K C V) (w : W) → step o (step o w) ≡ step o w) (keeps : (o p : Offer K C V) → is_strong o.mode ≡ true → (w v : W) → step o w ≡ step o v → step o (step p w) ≡ step o (step p v)) where
    kept-same : (o : Offer K C V) → is_strong o.mode ≡ true → (os : List (Offer K C V)) (w v : W) → step o w ≡ step o v → step o (behind eq k step w os) ≡ step o (behind eq k step v os)
    kept-same o strong [] w v e = e
    kept-same o strong (p ∷ os) w v e = kept-same o strong os (cond (is_about eq k p) (step p w) w) (cond (is_about eq k p) (step p v) v) (by (is_about eq k p))
      where
        by : (b : Bool) → step o (cond b (step p w) w) ≡ step o (cond b (step p v) v)
        by true = keeps o p strong w v e
        by false = e

    once-more : (xs : List (Offer K C V)) → Acts xs → (w : W) (os : List (Offer K C V)) → behind eq k step (behind eq k step (behind eq k step w xs) os) xs ≡ behind eq k step (behind eq k step w os) xs
    once-more xs (idle is) w os = ap (λ v. behind eq k step (behind eq k step v os) xs) (is w)
    once-more xs (acts o strong is) w os = is (behind eq k step (behind eq k step w xs) os) ∙ kept-same o strong os (behind eq k step w xs) w (ap (step o) (is w) ∙ again o w) ∙ sym (is (behind eq k step w os))

    split-behind : (v : W) (os xs ps : List (Offer K C V)) → behind eq k step v (os ++ (xs ++ ps)) ≡ behind eq k step (behind eq k step (behind eq k step v os) xs) ps
    split-behind v os xs ps = behind-append v os (xs ++ ps) ∙ behind-append (behind eq k step v os) xs ps

    behind-passed : (xs : List (Offer K C V)) → Acts xs → (w : W) (os ps : List (Offer K C V)) → behind eq k step w (xs ++ (os ++ (xs ++ ps))) ≡ behind eq k step w (os ++ (xs ++ ps))
    behind-passed xs a w os ps =
        behind-append w xs (os ++ (xs ++ ps)) ∙ split-behind (behind eq k step w xs) os xs ps
        ∙ ap (λ v. behind eq k step v ps) (once-more xs a w os)
        ∙ sym (split-behind w os xs ps)

module _ {K C V : Type 0} (eq : K → K → Bool) (laws : IsEquivalence eq) where
  pub named-more : (ks : List K) (xs os : List (Offer K C V)) → Named eq laws ks xs → Named eq laws (names_behind eq ks os) xs
  named-more ks [] os no_name = no_name
  named-more ks (x ∷ xs) os (a_name here rest) = a_name (still-named eq laws x.name ks os here) (named-more ks xs os rest)

  -- names that are there stay, in their order
  pub names_passed : (os before xs after : List (Offer K C V)) → names_of eq (os ++ ((before ++ (xs ++ after)) ++ xs)) ≡ names_of eq (os ++ (before ++ (xs ++ after)))
  names_passed os before xs after =
      ap (names_of eq) (sym (append_assoc os (before ++ (xs ++ after)) xs)) ∙ names_behind-append eq [] (os ++ (before ++ (xs ++ after))) xs
      ∙ named-again eq laws (names_of eq (os ++ (before ++ (xs ++ after)))) xs (subst (λ ks. Named eq laws ks xs) (sym ordered) (named-more (names_behind eq front xs) xs after (all-named eq laws front xs)))
    where
      front : List K
      front = names_behind eq (names_behind eq [] os) before

      ordered : names_of eq (os ++ (before ++ (xs ++ after))) ≡ names_behind eq (names_behind eq front xs) after
      ordered = names_behind-append eq [] os (before ++ (xs ++ after)) ∙ names_behind-append eq (names_behind eq [] os) before (xs ++ after) ∙ names_behind-append eq front xs after

  module _ (same : (i j : K) → eq i j ≡ true → i ≡ j) (mode : Mode) (strong : is_strong mode ≡ true) (inner : List (Offer K C V)) where
    pub values_passed : (k : K) (c : C) (os ps qs : List (Offer K C V)) → value_of eq (os ++ (gathered eq mode inner ++ (ps ++ (gathered eq mode inner ++ qs)))) k c ≡ value_of eq (os ++ (ps ++ (gathered eq mode inner ++ qs))) k c
    unfolding take
    values_passed k c os ps qs =
        let xs = gathered eq mode inner in
        value-behind eq k c os (xs ++ (ps ++ (xs ++ qs)))
        ∙ behind-passed eq k (take eq k c) (λ o w. merged-again o.mode w (o.value c)) (λ o p s w v e. merged-keeps o.mode p.mode s w v (p.value c) (o.value c) e) xs (acts-of eq k (take eq k c) laws same mode strong inner (names_of eq inner) (names-apart eq laws [] inner no_key)) (value_of eq os k c) ps qs
        ∙ sym (value-behind eq k c os (ps ++ (xs ++ qs)))

    pub widths_passed : (k : K) (g : ℕ) (os ps qs : List (Offer K C V)) → width_of eq (os ++ (gathered eq mode inner ++ (ps ++ (gathered eq mode inner ++ qs)))) k g ≡ width_of eq (os ++ (ps ++ (gathered eq mode inner ++ qs))) k g
    unfolding widen
    widths_passed k g os ps qs =
        let xs = gathered eq mode inner in
        width-behind eq k g os (xs ++ (ps ++ (xs ++ qs)))
        ∙ behind-passed eq k (widen eq k g) (λ o w. width-again o.mode w (o.width g)) (λ o p s w v e. width-keeps o.mode p.mode s w v (p.width g) (o.width g) e) xs (acts-of eq k (widen eq k g) laws same mode strong inner (names_of eq inner) (names-apart eq laws [] inner no_key)) (width_of eq os k g) ps qs
        ∙ sym (width-behind eq k g os (ps ++ (xs ++ qs)))

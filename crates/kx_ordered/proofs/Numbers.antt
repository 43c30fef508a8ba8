-- Where keys stand that are told by numbers.
use Rattle.std.proofs.Common.{arith, take, ◌≡◌, ℕ, ◌<◌, Bool, true, false, cond, List, [], ◌∷◌, ◌++◌, length, set, Option, None, Some, is_some, refl, sym, ap, ◌∙◌, true≢false}
use Rattle.std.proofs.Math.Seq.{take-append_seam}
use Rattle.std.proofs.lemmas.List.{append_cancel_left, length-append, get_or-set_other, get_or-set_same}
use Rattle.std.specs.BTreeMap as tree
use Rattle.std.specs.BTreeMap.{BTreeMap, is_at}
use Rattle.std.specs.Cmp.{IsTotalOrder}
use Rattle.std.specs.Option.{option_or, option_to_list}
use Rattle.std.specs.Ordering.{is_eq}
use Rattle.std.specs.declared.cmp.Ordering.{Ordering}
use Rattle.kx_ordered.specs.KeyPlaces.{ArePlaced, IsEachPlaced, place_in}
use Rattle.kx_ordered.specs.Numbers.{IsTold, numbered}
use Rattle.kx_ordered.proofs.KeyPlaces.{absent, is_equal, no_some, place_pushed}

-- what was put last is taken off
pub popped : {X : Type 0} (es left : List X) (e : X) (last : Option X) → es ++ e ∷ [] ≡ left ++ option_to_list last → is_some last ≡ true → es ≡ left
popped es left e None h some = absurd (true≢false (sym some))
popped es left e (Some x) h some = sym (take-append_seam es (e ∷ [])) ∙ (λ i. take (long i) (h i)) ∙ take-append_seam left (x ∷ [])
  where
    long : length es ≡ length left
    long = omega (arith, ap length h, length-append es (e ∷ []), length-append left (x ∷ []))

pub popped_last : {X : Type 0} (es left : List X) (e x : X) → es ++ e ∷ [] ≡ left ++ x ∷ [] → x ≡ e
popped_last es left e x h =
    let ends : e ∷ [] ≡ x ∷ [] = append_cancel_left es (e ∷ []) (x ∷ []) (h ∙ ap (λ es. es ++ x ∷ []) (sym (popped es left e (Some x) h refl))) in
    cc

-- a table without numbers
pub nothing : (m : Option ℕ) → numbered [] m ≡ None
nothing None = refl
nothing (Some n) = refl

-- a table of numbers in which one place is set
module _ (numbers : List (Option ℕ)) (n : ℕ) (place : ℕ) where
  pub set_same : n < length numbers → numbered (set numbers n (Some place)) (Some n) ≡ Some place
  set_same within = get_or-set_same numbers n (Some place) None within

  pub set_other : (m : Option ℕ) → (m ≡ Some n → ⊥) → numbered (set numbers n (Some place)) m ≡ numbered numbers m
  set_other None apart = refl
  set_other (Some m) apart = get_or-set_other numbers n m (Some place) None (λ e. apart (ap Some e))

module _ {K V : Type 0} (cmp : K → K → Ordering) (order : IsTotalOrder cmp) (number : K → Option ℕ) (told : IsTold cmp number) (es : List (K × V)) (e : K × V) (none : place_in (is_at (cmp e.0)) es ≡ None) where
  pushed : (k : K) → cond (is_at (cmp k) e.0) (Some (length es)) (place_in (is_at (cmp k)) es) ≡ place_in (is_at (cmp k)) (es ++ e ∷ [])
  pushed k = place_pushed cmp order (cmp k) (order.congr k) es e none

  -- what is put by its order
  pub each_by_order : (numbers : List (Option ℕ)) (places more : BTreeMap K ℕ) → IsEachPlaced cmp number numbers places es → ((k : K) → tree.get_by (cmp k) more ≡ cond (is_at (cmp k) e.0) (Some (length es)) (tree.get_by (cmp k) places)) → IsEachPlaced cmp number numbers more (es ++ e ∷ [])
  each_by_order numbers places more placed got k =
      ap (option_or (numbered numbers (number k))) (got k)
      ∙ by (is_at (cmp k) e.0) (numbered numbers (number k)) (tree.get_by (cmp k) places) (place_in (is_at (cmp k)) es) (placed k) (absent cmp order (cmp k) (order.congr k) es e.0 none)
      ∙ pushed k
    where
      by : (b : Bool) (n t p : Option ℕ) → option_or n t ≡ p → (b ≡ true → p ≡ None) → option_or n (cond b (Some (length es)) t) ≡ cond b (Some (length es)) p
      by true None t p h gone = refl
      by true (Some x) t p h gone = absurd (no_some (sym (gone refl) ∙ sym h))
      by false n t p h gone = h

  module _ (n : ℕ) (is : number e.0 ≡ Some n) where
    -- what is put by its number
    pub each_by_number : (numbers more : List (Option ℕ)) (places : BTreeMap K ℕ) → IsEachPlaced cmp number numbers places es → numbered more (Some n) ≡ Some (length es) → ((m : Option ℕ) → (m ≡ Some n → ⊥) → numbered more m ≡ numbered numbers m) → IsEachPlaced cmp number more places (es ++ e ∷ [])
    each_by_number numbers more places placed here there k = by (is_at (cmp k) e.0) refl ∙ pushed k
      where
        by : (b : Bool) → is_at (cmp k) e.0 ≡ b → option_or (numbered more (number k)) (tree.get_by (cmp k) places) ≡ cond b (Some (length es)) (place_in (is_at (cmp k)) es)
        by true h = ap (λ o. option_or o (tree.get_by (cmp k) places)) (ap (numbered more) (told.0 k e.0 (is_equal (cmp k e.0) h) ∙ is) ∙ here)
        by false h = ap (λ o. option_or o (tree.get_by (cmp k) places)) (there (number k) (λ same. true≢false (sym (ap is_eq (told.1 k e.0 n same is)) ∙ h))) ∙ placed k

    pub placed_by_number : (places : BTreeMap K ℕ) → ArePlaced cmp number places es → ArePlaced cmp number places (es ++ e ∷ [])
    placed_by_number places placed compare respects unnumbered = placed compare respects unnumbered ∙ by (is_at compare e.0) refl ∙ place_pushed cmp order compare respects es e none
      where
        by : (b : Bool) → is_at compare e.0 ≡ b → place_in (is_at compare) es ≡ cond b (Some (length es)) (place_in (is_at compare) es)
        by true h = absurd (no_some (sym (unnumbered e.0 (is_equal (compare e.0) h)) ∙ is))
        by false h = refl

-- Where keys stand once one is put that may be there.
use Rattle.std.proofs.Common.{◌≡◌, ℕ, Bool, true, false, cond, List, length, Option, None, Some, IfOk, Result, Ok, Err, unwrap_or, refl, sym, ap, ◌∙◌, arith}
use Rattle.std.specs.BTreeMap as tree
use Rattle.std.specs.BTreeMap.{BTreeMap, is_at}
use Rattle.std.specs.Cmp.{IsTotalOrder}
use Rattle.std.specs.Map.{lookup}
use Rattle.std.specs.Option.{option_map, option_or}
use Rattle.std.specs.Ordering.{is_eq}
use Rattle.std.specs.declared.cmp.Ordering.{Ordering}
use Rattle.std.specs.declared.cmp.Ordering.TheVariants.{Equal}
use Rattle.kx_ordered.specs.KeyPlaces.{IsEachPlaced, Respects, place_in}
use Rattle.kx_ordered.specs.Numbers.{numbered}
use Rattle.kx_ordered.proofs.KeyPlaces.{is_equal, look_put, within}

module _ {K : Type 0} (cmp : K → K → Ordering) (order : IsTotalOrder cmp) where
  -- a key that is put with what it has leaves all as it was
  pub kept_there : {V : Type 0} (es : List (K × V)) (k : K) (v : V) → lookup (is_at (cmp k)) es ≡ Some v → (compare : K → Ordering) → Respects cmp compare → lookup (is_at compare) (tree.insert_entry cmp es k v) ≡ lookup (is_at compare) es
  kept_there es k v there compare respects = look_put cmp order compare respects es k v ∙ by (is_at compare k) refl
    where
      by : (b : Bool) → is_at compare k ≡ b → cond b (Some v) (lookup (is_at compare) es) ≡ lookup (is_at compare) es
      by true h = sym (ap (λ test. lookup test es) (λ i x. is_eq (respects k x (is_equal (compare k) h) i)) ∙ there)
      by false h = refl

  -- the tree tells where a key stands that has no number, by each key that is equal to it
  pub told_by_tree : {V : Type 0} (number : K → Option ℕ) (numbers : List (Option ℕ)) (places : BTreeMap K ℕ) (es : List (K × V)) (key again : K) → IsEachPlaced cmp number numbers places es → number key ≡ None → cmp again key ≡ Equal → tree.get cmp places again ≡ place_in (is_at (cmp key)) es
  told_by_tree number numbers places es key again placed unnumbered same =
      ap (λ test. lookup test places.entries) (λ i x. is_eq (order.congr again key x same i))
      ∙ sym (ap (λ n. option_or (numbered numbers n) (tree.get_by (cmp key) places)) unnumbered) ∙ placed key

-- a key whose place is the one after all others stood nowhere
pub was_nowhere : {K V : Type 0} (test : K → Bool) (es : List (K × V)) (o : Option ℕ) (found place : ℕ) → o ≡ place_in test es → found ≡ unwrap_or o place → found ≡ place → place ≡ length es → place_in test es ≡ None
was_nowhere test es None found place at is last count = sym at
was_nowhere test es (Some n) found place at is last count = let below = within test es (Some n) at in absurd (omega (arith, below, is, last, count))

-- a key whose place is another stood there
pub was_there : {K V : Type 0} (test : K → Bool) (es : List (K × V)) (o : Option ℕ) (found place : ℕ) → o ≡ place_in test es → found ≡ unwrap_or o place → (found ≡ place → ⊥) → o ≡ Some found
was_there test es None found place at is other = absurd (other is)
was_there test es (Some n) found place at is other = ap Some (sym is)

-- where a key that stood nowhere was put
pub put_nowhere : {V E P Q : Type 0} (result : Result (Option (ℕ × V)) E) (place : Option ℕ) → IfOk result (λ found. option_map (λ f. f.0) found ≡ place) → IfOk result (λ found. found ≡ None → P) → (place ≡ None → P → Q) → IfOk result (λ found. found ≡ None → Q)
put_nowhere (Ok found) place at put so = λ is. so (sym at ∙ ap (option_map (λ f. f.0)) is) (put is)
put_nowhere (Err e) place at put so = tt

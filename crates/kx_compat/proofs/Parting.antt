-- The least of interpretations is that of those of the keysym, where there is one, else that of those of any.
use Rattle.std.proofs.Common.{◌≡◌, ℕ, ◌+◌, ◌<◌, ◌≤◌, ◌&&◌, nat_lt, nat_eq, Bool, true, false, cond, List, [], ◌∷◌, fold, filter, Option, None, Some, refl, sym, ap, ◌∙◌, arith, if◌then◌else◌}
use Rattle.std.specs.Option.{option_or}
use Rattle.std.proofs.lemmas.Bool.Decides.{nat_tests}
use Rattle.kx_compat.specs.Choosing.{allows, chosen, condition_rank, earlier, fits, keysym_rank, least, matches, rank}
use Rattle.kx_compat.specs.Interpretations.{Interpretation}
use Rattle.kx_compat.specs.Indexed.{is_for_any, is_named, names_keysym, wants_any}
use Rattle.kx_mods.specs.declared.condition.Condition.{Condition}
use Rattle.kx_mods.specs.declared.condition.Condition.TheVariants.{Exactly}
use Rattle.kx_compat.specs.declared.interpretation_match.WantedKeysym.{WantedKeysym}
use Rattle.kx_compat.specs.declared.interpretation_match.WantedKeysym.TheVariants.{Any, Named}

low : (c : Condition) → condition_rank c < 5
low Exactly = omega arith
low _ = omega arith

-- one of a named keysym is before one of any
abbrev IsOfNamed : Option Interpretation → Type 0
IsOfNamed None = Unit {0}
IsOfNamed (Some i) = rank i < 5

abbrev IsOfAny : Option Interpretation → Type 0
IsOfAny None = Unit {0}
IsOfAny (Some i) = 5 ≤ rank i

either : (b : Bool) (x y : Interpretation) → (P : Interpretation → Type 0) → P x → P y → P (if b then x else y)
either true x y P p q = p
either false x y P p q = q

named_earlier : (a : Option Interpretation) (i : Interpretation) → IsOfNamed a → rank i < 5 → IsOfNamed (earlier a i)
named_earlier None i h low = low
named_earlier (Some x) i h low = either (nat_lt (rank i) (rank x)) i x (λ y. rank y < 5) low h

any_earlier : (b : Option Interpretation) (i : Interpretation) → IsOfAny b → 5 ≤ rank i → IsOfAny (earlier b i)
any_earlier None i h high = high
any_earlier (Some x) i h high = either (nat_lt (rank i) (rank x)) i x (λ y. 5 ≤ rank y) high h

below : (m n : ℕ) → m < 5 → 5 ≤ n → nat_lt m n ≡ true
below m n p q = grind (arith, nat_tests, p, q)

above : (m n : ℕ) → m < 5 → 5 ≤ n → nat_lt n m ≡ false
above m n p q = grind (arith, nat_tests, p, q)

-- one of a named keysym comes first
takes_named : (a b : Option Interpretation) (i : Interpretation) → IsOfNamed a → IsOfAny b → rank i < 5 → earlier (option_or a b) i ≡ option_or (earlier a i) b
takes_named None None i p q low = refl
takes_named None (Some y) i p q low = ap (λ t. Some (if t then i else y)) (below (rank i) (rank y) low q)
takes_named (Some x) b i p q low = refl

keeps_named : (a b : Option Interpretation) (i : Interpretation) → IsOfNamed a → IsOfAny b → 5 ≤ rank i → earlier (option_or a b) i ≡ option_or a (earlier b i)
keeps_named None b i p q high = refl
keeps_named (Some x) b i p q high = ap (λ t. Some (if t then i else x)) (above (rank x) (rank i) p high)

-- what is left of both is what is left of each
abbrev Splits : List Interpretation → List Interpretation → List Interpretation → Type 0
Splits both named any = (a b : Option Interpretation) → IsOfNamed a → IsOfAny b → fold earlier (option_or a b) both ≡ option_or (fold earlier a named) (fold earlier b any)

module _ (both named any : List Interpretation) (rest : Splits both named any) (i : Interpretation) where
  named_step : rank i < 5 → (h : Bool) → Splits (cond h (i ∷ both) both) (cond h (i ∷ named) named) any
  named_step low false a b p q = rest a b p q
  named_step low true a b p q = ap (λ o. fold earlier o both) (takes_named a b i p q low) ∙ rest (earlier a i) b (named_earlier a i p low) q

  any_step : 5 ≤ rank i → (h : Bool) → Splits (cond h (i ∷ both) both) named (cond h (i ∷ any) any)
  any_step high false a b p q = rest a b p q
  any_step high true a b p q = ap (λ o. fold earlier o both) (keeps_named a b i p q high) ∙ rest a (earlier b i) p (any_earlier b i q high)

module _ (first : Bool) (modmap keysym : ℕ) where
  abbrev held : Interpretation → Bool
  held i = allows first modmap i

  abbrev ofNamed : List Interpretation → List Interpretation
  ofNamed is = filter held (filter (is_named keysym) is)

  abbrev ofAny : List Interpretation → List Interpretation
  ofAny is = filter held (filter is_for_any is)

  abbrev ofBoth : List Interpretation → List Interpretation
  ofBoth is = filter (matches first modmap keysym) is

  module _ (i : Interpretation) (is : List Interpretation) (rest : Splits (ofBoth is) (ofNamed is) (ofAny is)) where
    named_at : rank i < 5 → (t : Bool) → Splits (cond (t && held i) (i ∷ ofBoth is) (ofBoth is)) (filter held (cond t (i ∷ filter (is_named keysym) is) (filter (is_named keysym) is))) (ofAny is)
    named_at low true = named_step (ofBoth is) (ofNamed is) (ofAny is) rest i low (held i)
    named_at low false = rest

    at : (w : WantedKeysym) → rank i ≡ keysym_rank w + condition_rank i.interpretation_match.condition → Splits (cond (fits w keysym && held i) (i ∷ ofBoth is) (ofBoth is)) (filter held (cond (names_keysym keysym w) (i ∷ filter (is_named keysym) is) (filter (is_named keysym) is))) (filter held (cond (wants_any w) (i ∷ filter is_for_any is) (filter is_for_any is)))
    at Any r = any_step (ofBoth is) (ofNamed is) (ofAny is) rest i (omega (arith, r)) (held i)
    at (Named v) r = let few = low i.interpretation_match.condition in named_at (omega (arith, r, few)) (nat_eq v keysym)

  parts : (is : List Interpretation) → Splits (ofBoth is) (ofNamed is) (ofAny is)
  parts [] a b p q = refl
  parts (i ∷ is) a b p q = at i is (parts is) i.interpretation_match.keysym refl a b p q

pub least_of_parts : (first : Bool) (modmap keysym : ℕ) (is : List Interpretation) → chosen is keysym first modmap ≡ option_or (least (filter (allows first modmap) (filter (is_named keysym) is))) (least (filter (allows first modmap) (filter is_for_any is)))
least_of_parts first modmap keysym is = parts first modmap keysym is None None tt tt

module _ (first : Bool) (modmap keysym : ℕ) (is named : List Interpretation) (p : named ≡ filter (is_named keysym) is) where
  -- one of the keysym is chosen, where there is one
  pub chosen_named : (o : Option Interpretation) (i : Interpretation) → o ≡ Some i → o ≡ least (filter (allows first modmap) named) → Some i ≡ chosen is keysym first modmap
  chosen_named o i found is_least = ap (λ x. option_or x (least (filter (allows first modmap) (filter is_for_any is)))) (sym found ∙ is_least ∙ ap (λ xs. least (filter (allows first modmap) xs)) p) ∙ sym (least_of_parts first modmap keysym is)

  -- else one of any
  pub chosen_any : (o other : Option Interpretation) (any : List Interpretation) → any ≡ filter is_for_any is → o ≡ None → o ≡ least (filter (allows first modmap) named) → other ≡ least (filter (allows first modmap) any) → other ≡ chosen is keysym first modmap
  chosen_any o other any q found is_least is_other =
      is_other ∙ ap (λ xs. least (filter (allows first modmap) xs)) q
      ∙ ap (λ x. option_or x (least (filter (allows first modmap) (filter is_for_any is)))) (sym found ∙ is_least ∙ ap (λ xs. least (filter (allows first modmap) xs)) p)
      ∙ sym (least_of_parts first modmap keysym is)

-- Types of groups that are merged one by one, put in their places and moved.
use Rattle.std.proofs.Common.{◌≡◌, ℕ, ◌+◌, ◌-◌, ◌==◌, ◌<◌, ◌≤◌, Bool, true, false, cond, max, nat_eq, nat_lt, List, [], ◌∷◌, ◌++◌, length, replicate, get_or, zero, suc, slice_set, Option, None, Some, refl, sym, ap, ◌∙◌, arith}
use Rattle.std.specs.Option.{option_and_then}
use Rattle.std.specs.List.{slice_get}
use Rattle.std.proofs.lemmas.List.{length-append, length-replicate}
use Rattle.std.proofs.lemmas.Option.{slice_get_past, slice_get-get_or}
use Rattle.std.proofs.lemmas.Bool.{false≢true, eqb-true, eq-eqb, ltb-true, ltb-false, lt-ltb, le-ltb}
use Rattle.kx_tree.specs.declared.tree.Mode.{Mode}
use Rattle.kx_tree.specs.declared.tree.Mode.TheVariants.{Augment, Override, Replace}
use Rattle.kx_merge.specs.Offers.{is_replace, merged_value}
use Rattle.kx_key_lists.proofs.Replaced.{set-here, set-other}
use Rattle.kx_key_fields.specs.Attributes.{GroupTypes, type_at, widened_to, with_type}

-- of later types those before a place were merged, and the others are still there
pub record TypesBehind (mode : Mode) (old other now left : GroupTypes) (place : ℕ) : Type 0 where
  pub sized : length left ≡ length other
  pub kept : (k : ℕ) → place ≤ k → type_at left k ≡ type_at other k
  pub long : length now ≡ max (length old) place
  pub types : (k : ℕ) → type_at now k ≡ cond (nat_lt k place) (merged_value mode (type_at old k) (type_at other k)) (type_at old k)

-- where nothing is merged, what is there stays
nothing_taken : (mode : Mode) (o : Option (List ℕ)) → is_replace mode ≡ false → merged_value mode o None ≡ o
nothing_taken Augment None h = refl
nothing_taken Augment (Some x) h = refl
nothing_taken Override o h = refl
nothing_taken Replace o h = absurd (false≢true (sym h))

type-past : (xs : GroupTypes) (k : ℕ) → length xs ≤ k → type_at xs k ≡ None
type-past xs k past = ap (λ o. option_and_then (λ p. p) o) (slice_get_past xs k past)

module _ (mode : Mode) (old other : GroupTypes) where
  pub types_go : (now left : GroupTypes) (place : ℕ) (name : Option (List ℕ)) (now2 left2 : GroupTypes) → is_replace mode ≡ false → TypesBehind mode old other now left place → place < length other
      → name ≡ type_at left place → length left2 ≡ length left → ((k : ℕ) → place + 1 ≤ k → type_at left2 k ≡ type_at left k)
      → ((g : ℕ) → type_at now2 g ≡ cond (nat_eq g place) (merged_value mode (type_at now place) name) (type_at now g)) → length now2 ≡ max (length now) (place + 1) → TypesBehind mode old other now2 left2 (place + 1)
  types_go now left place name now2 left2 strong b within is sized kept taken_up long = record {
    sized = sized ∙ b.sized;
    kept = λ k from. kept k from ∙ b.kept k (omega (arith, from));
    long = let before = b.long in omega (arith, long, before);
    types = λ k. taken_up k ∙ by k (nat_eq k place) refl;
  }
    where
      shows : ℕ → Bool → Option (List ℕ)
      shows k b = cond b (merged_value mode (type_at old k) (type_at other k)) (type_at old k)

      before : type_at now place ≡ type_at old place
      before = b.types place ∙ ap (shows place) (le-ltb place place (omega arith))

      later : name ≡ type_at other place
      later = is ∙ b.kept place (omega arith)

      here : (k : ℕ) → k ≡ place → merged_value mode (type_at now place) name ≡ shows k (nat_lt k (place + 1))
      here k e = ap (λ o. merged_value mode o name) before ∙ ap (merged_value mode (type_at old place)) later ∙ ap (λ j. merged_value mode (type_at old j) (type_at other j)) (sym e) ∙ sym (ap (shows k) (lt-ltb k (place + 1) (omega (arith, e))))

      there : (k : ℕ) → nat_eq k place ≡ false → (c d : Bool) → nat_lt k place ≡ c → nat_lt k (place + 1) ≡ d → shows k c ≡ shows k d
      there k other true true f g = refl
      there k other false false f g = refl
      there k other true false f g = absurd (false≢true (sym g ∙ lt-ltb k (place + 1) (let low = ltb-true k place f in omega (arith, low))))
      there k other false true f g = absurd (false≢true (sym other ∙ eq-eqb k place (let high = ltb-false k place f in let low = ltb-true k (place + 1) g in omega (arith, high, low))))

      by : (k : ℕ) (same : Bool) → nat_eq k place ≡ same → cond same (merged_value mode (type_at now place) name) (type_at now k) ≡ shows k (nat_lt k (place + 1))
      by k true e = here k (eqb-true k place e)
      by k false e = b.types k ∙ there k e (nat_lt k place) (nat_lt k (place + 1)) refl refl

  pub types_end : (now left : GroupTypes) (place : ℕ) → is_replace mode ≡ false → TypesBehind mode old other now left place → length other ≤ place → (k : ℕ) → type_at now k ≡ merged_value mode (type_at old k) (type_at other k)
  types_end now left place strong b all k = b.types k ∙ by (nat_lt k place) refl
    where
      by : (before : Bool) → nat_lt k place ≡ before → cond before (merged_value mode (type_at old k) (type_at other k)) (type_at old k) ≡ merged_value mode (type_at old k) (type_at other k)
      by true f = refl
      by false f = sym (ap (merged_value mode (type_at old k)) (type-past other k (let past = ltb-false k place f in omega (arith, past, all))) ∙ nothing_taken mode (type_at old k) strong)

none-at : (n k : ℕ) → type_at (replicate n None) k ≡ None
none-at zero k = refl
none-at (suc n) zero = refl
none-at (suc n) (suc k) = none-at n k

widened-at : (types : GroupTypes) (n k : ℕ) → type_at (types ++ replicate n None) k ≡ type_at types k
widened-at [] n k = none-at n k
widened-at (o ∷ types) n zero = refl
widened-at (o ∷ types) n (suc k) = widened-at types n k

pub widened_long : (types : GroupTypes) (count : ℕ) → count ≤ length (widened_to count types)
widened_long types count =
    let both : length (widened_to count types) ≡ length types + length (replicate (count - length types) None) = length-append types (replicate (count - length types) None) in
    let more : length (replicate {A = Option (List ℕ)} (count - length types) None) ≡ count - length types = length-replicate (count - length types) None in
    omega (arith, both, more)

-- a group's type is put in its place
pub type_put : (types : GroupTypes) (group : ℕ) (name : List ℕ) (g : ℕ) → type_at (with_type types group name) g ≡ cond (g == group) (Some name) (type_at types g)
type_put types group name g = by (g == group) refl
  where
    wide : GroupTypes
    wide = widened_to (group + 1) types

    by : (b : Bool) → (g == group) ≡ b → type_at (slice_set wide group (Some name)) g ≡ cond b (Some name) (type_at types g)
    by true e = ap (type_at (slice_set wide group (Some name))) (eqb-true g group e) ∙ ap (λ o. option_and_then (λ p. p) o) (set-here wide group (Some name) (let room = widened_long types (group + 1) in omega (arith, room)))
    by false e =
        let away : g ≡ group → ⊥ = λ same. false≢true (sym e ∙ eq-eqb g group same) in
        ap (λ o. option_and_then (λ p. p) o) (set-other wide group (Some name) g away) ∙ widened-at types (group + 1 - length types) g

-- What is chosen for each set of modifiers, kept by its mask.
use Rattle.std.proofs.Common.{◌≡◌, ℕ, ◌+◌, ◌<◌, zero, suc, Bool, List, [], ◌∷◌, ◌++◌, filter, map, slice_get, Option, Some, get_or, arith, refl, sym, ap, ◌∙◌}
use Rattle.std.specs.List.{range_with_len}
use Rattle.std.proofs.lemmas.List.FromFn.{get_or-map-range_with_len, map-range_with_len_more}
use Rattle.std.proofs.lemmas.Option.{same_Some}
use Rattle.indexmap.specs.IndexMap.{IndexMap, values, with_entries}
use Rattle.kx_ordered.specs.KeyPlaces.{with_value}
use Rattle.kx_compat.specs.Choosing.{allows, least}
use Rattle.kx_compat.specs.Indexed.{AreChoices}
use Rattle.kx_compat.specs.Interpretations.{Interpretation}

module _ (is : List Interpretation) (first : Bool) where
  abbrev pub chosen_for : ℕ → Option Interpretation
  chosen_for modmap = least (filter (allows first modmap) is)

  -- those of the masks below one
  abbrev pub KeptBelow : ℕ → List (Option Interpretation) → Type 0
  KeptBelow mask choices = choices ≡ map chosen_for (range_with_len 0 mask)

  pub kept_more : (mask : ℕ) (choices : List (Option Interpretation)) → KeptBelow mask choices → KeptBelow (mask + 1) (choices ++ chosen_for mask ∷ [])
  kept_more mask choices h = ap (λ os. os ++ chosen_for mask ∷ []) h ∙ sym (map-range_with_len_more chosen_for 0 mask mask (omega arith))

  pub kept_at : (choices : List (Option Interpretation)) (mask : ℕ) (d : Option Interpretation) → AreChoices is first choices → mask < 256 → get_or choices mask d ≡ chosen_for mask
  kept_at choices mask d are few = ap (λ os. get_or os mask d) are ∙ get_or-map-range_with_len chosen_for 0 256 mask mask d few (omega arith)

-- the value that stands at a place changes nothing there
same_entries : {K X : Type 0} (es : List (K × X)) (i : ℕ) (w : X) → slice_get (map (λ e. e.1) es) i ≡ Some w → with_value es i w ≡ es
same_entries [] i w h = refl
same_entries (e ∷ es) zero w h = ap (λ x. (e.0, x) ∷ es) (sym (same_Some e.1 w h))
same_entries (e ∷ es) (suc i) w h = ap (λ l. e ∷ l) (same_entries es i w h)

pub same_value : {K X S : Type 0} (m : IndexMap K X S) (i : ℕ) (w : X) → slice_get (values m) i ≡ Some w → with_entries m (with_value m.entries i w) ≡ m
same_value m i w h = ap (with_entries m) (same_entries m.entries i w h)

-- What one number more makes of the places of a keysym.
use Rattle.std.proofs.Common.{ℕ, ◌+◌, ◌≡◌, List, [], ◌++◌, append-nil, Option, None, Some, refl, subst, ap, ◌∙◌}
use Rattle.kx_keys.specs.Given.{KeyGiven, given_in}
use Rattle.kx_keys.specs.GroupTypes.{group_levels}
use Rattle.kx_keys.specs.Mapping.{Mapping, first_of, first_place, group_places, key_places, level_places, place_at, places_below}
use Rattle.kx_keys.specs.Typing.{Typing}
use Rattle.kx_keys.proofs.Counting.{none_count, one_more}

module _ (keysym : ℕ) where
  module _ (key : KeyGiven) (code : ℕ) where
    pub levels_none : (group : ℕ) → level_places keysym key code group 0 ≡ []
    unfolding level_places
    levels_none group = refl

    pub levels_next : (group n : ℕ) → level_places keysym key code group (n + 1) ≡ level_places keysym key code group n ++ place_at keysym key code group n
    unfolding level_places
    levels_next group n = subst (λ m. level_places keysym key code group m ≡ level_places keysym key code group n ++ place_at keysym key code group n) (one_more n) refl

    module _ (typing : Typing) where
      pub groups_none : group_places keysym typing key code 0 ≡ []
      unfolding group_places
      groups_none = refl

      pub groups_next : (n : ℕ) → group_places keysym typing key code (n + 1) ≡ group_places keysym typing key code n ++ level_places keysym key code n (group_levels typing key n)
      unfolding group_places
      groups_next n = subst (λ m. group_places keysym typing key code m ≡ group_places keysym typing key code n ++ level_places keysym key code n (group_levels typing key n)) (one_more n) refl

  module _ (m : Mapping) where
    pub below_none : places_below keysym m 0 ≡ []
    unfolding places_below
    below_none = refl

    pub below_next : (n : ℕ) → places_below keysym m (n + 1) ≡ places_below keysym m n ++ key_places keysym m.typing n (m.name n) (m.key n)
    unfolding places_below
    below_next n = subst (λ k. places_below keysym m k ≡ places_below keysym m n ++ key_places keysym m.typing n (m.name n) (m.key n)) (one_more n) refl

    -- a code without a name has none
    pub unnamed_places : (n : ℕ) → m.name n ≡ None → places_below keysym m (n + 1) ≡ places_below keysym m n
    unnamed_places n none = below_next n ∙ ap (λ o. places_below keysym m n ++ key_places keysym m.typing n o (m.key n)) none ∙ append-nil (places_below keysym m n)

    pub first_is : first_of (places_below keysym m 4096) ≡ first_place keysym m
    unfolding first_place
    first_is = refl

-- ---- A key that no statement names

pub none_places : (keysym : ℕ) (typing : Typing) (code : ℕ) (name : Option (List ℕ)) → key_places keysym typing code name (given_in None) ≡ []
none_places keysym typing code None = refl
none_places keysym typing code (Some name) = ap (group_places keysym typing (given_in None) code) none_count ∙ groups_none keysym (given_in None) code typing

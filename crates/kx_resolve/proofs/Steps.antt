-- What one number more makes of keys, groups, levels and the types that they use.
use Rattle.std.proofs.Common.{ℕ, ◌+◌, ◌≡◌, List, [], ◌∷◌, ◌++◌, Option, None, map, refl, subst, ap, ◌∙◌}
use Rattle.kx_keys.specs.Selecting.{RealSet}
use Rattle.kx_virtual_mods.specs.Counted.{with_names}
use Rattle.kx_keys.specs.Given.{KeyGiven, given_in}
use Rattle.kx_keys.specs.GroupTypes.{group_count, group_type_name}
use Rattle.kx_keys.specs.LevelActions.{LevelActions}
use Rattle.kx_keys.specs.Keys.{Keyed, cell_of, cells_of, resolved_group, groups_of, key_if_named, keys_below, resolved_of, type_names, type_names_below, type_names_if, type_of, types_used}
use Rattle.kx_keys.specs.Typing.{Typing}
use Rattle.kx_keys.proofs.Counting.{none_count, one_more}

-- ---- Levels

module _ (key : KeyGiven) where
  module _ (level_actions : LevelActions) (group : ℕ) where
    pub cells_none : cells_of level_actions key group 0 ≡ []
    unfolding cells_of
    cells_none = refl

    pub cells_next : (n : ℕ) → cells_of level_actions key group (n + 1) ≡ cells_of level_actions key group n ++ cell_of level_actions key group n ∷ []
    unfolding cells_of
    cells_next n = subst (λ m. cells_of level_actions key group m ≡ cells_of level_actions key group n ++ cell_of level_actions key group n ∷ []) (one_more n) refl

  module _ (typing : Typing) where
    pub names_none : type_names typing key 0 ≡ []
    unfolding type_names
    names_none = refl

    pub names_next : (n : ℕ) → type_names typing key (n + 1) ≡ type_names typing key n ++ group_type_name typing key n ∷ []
    unfolding type_names
    names_next n = subst (λ m. type_names typing key m ≡ type_names typing key n ++ group_type_name typing key n ∷ []) (one_more n) refl

    module _ (used : List (List ℕ)) (level_actions : LevelActions) where
      pub groups_none : groups_of typing used level_actions key 0 ≡ []
      unfolding groups_of
      groups_none = refl

      pub groups_next : (n : ℕ) → groups_of typing used level_actions key (n + 1) ≡ groups_of typing used level_actions key n ++ resolved_group typing used level_actions key n ∷ []
      unfolding groups_of
      groups_next n = subst (λ m. groups_of typing used level_actions key m ≡ groups_of typing used level_actions key n ++ resolved_group typing used level_actions key n ∷ []) (one_more n) refl

-- ---- Keys

module _ (typing : Typing) (name : ℕ → Option (List ℕ)) (key : ℕ → KeyGiven) where
  pub used_none : type_names_below typing name key 0 ≡ []
  unfolding type_names_below
  used_none = refl

  pub used_next : (n : ℕ) → type_names_below typing name key (n + 1) ≡ type_names_below typing name key n ++ type_names_if typing (name n) (key n)
  unfolding type_names_below
  used_next n = subst (λ m. type_names_below typing name key m ≡ type_names_below typing name key n ++ type_names_if typing (name n) (key n)) (one_more n) refl

  pub used_is : with_names [] (type_names_below typing name key 4096) ≡ types_used typing name key
  unfolding types_used
  used_is = refl

module _ (typing : Typing) (used : List (List ℕ)) (keyed : Keyed) where
  pub below_none : keys_below typing used keyed 0 ≡ []
  unfolding keys_below
  below_none = refl

  pub below_next : (n : ℕ) → keys_below typing used keyed (n + 1) ≡ keys_below typing used keyed n ++ key_if_named typing used (keyed.level_actions n) (keyed.key n) n (keyed.name n) (keyed.modmap n)
  unfolding keys_below
  below_next n = subst (λ m. keys_below typing used keyed m ≡ keys_below typing used keyed n ++ key_if_named typing used (keyed.level_actions n) (keyed.key n) n (keyed.name n) (keyed.modmap n)) (one_more n) refl

pub resolved_is : (real : ℕ → RealSet) (typing : Typing) (keyed : Keyed) → record { types = map (type_of real typing) (types_used typing keyed.name keyed.key); keys = keys_below typing (types_used typing keyed.name keyed.key) keyed 4096 } ≡ resolved_of real typing keyed
unfolding resolved_of
resolved_is real typing keyed = refl

-- ---- A key that no statement names

module _ (typing : Typing) where
  pub none_groups : (used : List (List ℕ)) (level_actions : LevelActions) → groups_of typing used level_actions (given_in None) (group_count (given_in None)) ≡ []
  none_groups used level_actions = ap (groups_of typing used level_actions (given_in None)) none_count ∙ groups_none (given_in None) typing used level_actions

  pub none_names : type_names typing (given_in None) (group_count (given_in None)) ≡ []
  none_names = ap (type_names typing (given_in None)) none_count ∙ names_none (given_in None) typing

-- What interpretations make of keys: their actions and the virtual modifiers that they bear (X Keyboard Extension, the
-- compatibility map).
use Rattle.std.specs.Prelude.{ℕ, ◌==◌, ◌&&◌, ◌||◌, not, nat_eq, Bool, false, List, [], ◌∷◌, Option, None, Some, is_some, if◌then◌else◌}
use Rattle.std.specs.Option.{option_and_then, option_map_or}
use Rattle.kx_actions.specs.declared.action.KeyAction.{KeyAction}
use Rattle.kx_compat.specs.Choosing.{chosen}
use Rattle.kx_compat.specs.Interpretations.{Interpretation}
use Rattle.kx_keys.specs.Selecting.{RealSet}
use Rattle.kx_virtual_mods.specs.Sets.{any_below, has, has_virtual}
use Rattle.kx_mods.specs.Mods.{mask}
use Rattle.kx_mods.specs.declared.mods.Mods.{Mods}
use Rattle.kx_keys.specs.Given.{KeyGiven}
use Rattle.kx_keys.specs.GroupTypes.{content_group, group_count, group_levels, has_action, level_keysyms}
use Rattle.kx_keys.specs.Typing.{Typing}
use Rattle.kx_basics.specs.declared.limits.TheConstants.{CODES}

-- ---- The interpretation of a level

abbrev pub only_keysym : List ℕ → Option ℕ
only_keysym (keysym ∷ []) = Some keysym
only_keysym _ = None

-- an interpretation that sees modifiers at the first level alone gives its virtual modifier at the first level of the first group alone
abbrev pub gives : ℕ → ℕ → ℕ → Option Interpretation → Bool
gives number group level i = option_map_or (λ i. option_map_or (nat_eq number) i.modifier false && (not i.first_level_only || group == 0 && level == 0)) i false

-- `modmap` are the modifiers that the key is mapped to
module _ (interpretations : List Interpretation) (modmap : Mods) (key : KeyGiven) where
  -- that chosen for the keysym of a level; none where there isn't exactly one keysym, or where the key has an action of its own
  abbrev pub interpretation_at : ℕ → ℕ → Option Interpretation
  interpretation_at group level =
      if has_action key then None
      else option_and_then (λ keysym. chosen interpretations keysym (level == 0) (mask modmap)) (only_keysym (level_keysyms key group level))

  -- what a level does: what the key says, and where it says nothing of any level, what its interpretation says
  abbrev pub level_action_at : ℕ → ℕ → Option KeyAction
  level_action_at group level = if has_action key then key.action group level else option_and_then (λ (i : Interpretation). i.action) (interpretation_at group level)

  -- a level of a group gives it
  abbrev pub is_given : Typing → ℕ → Bool
  is_given typing number = any_below (group_count key) (λ group. any_below (group_levels typing key group) (λ level. gives number group level (interpretation_at (content_group key group) level)))

  -- a key bears those that are written for it, else those that interpretations give it
  unfoldable pub is_in_vmodmap : Typing → ℕ → Bool
  is_in_vmodmap typing number = option_map_or (λ set. has_virtual set number) key.virtual_mods (is_given typing number)

-- what is read of a keymap: names and keys of codes, what keys are mapped to, what tells the types of groups, interpretations in order, declared masks
pub record ReadKeymap : Type 0 where
  pub name : ℕ → Option (List ℕ)
  pub key : ℕ → KeyGiven
  pub modmap : ℕ → Mods
  pub typing : Typing
  pub interpretations : List Interpretation
  pub masks : ℕ → RealSet

module _ (r : ReadKeymap) where
  -- the key of a code bears it and is mapped to a real modifier
  abbrev pub brings : ℕ → ℕ → ℕ → Bool
  brings number real code = is_some (r.name code) && (is_in_vmodmap r.interpretations (r.modmap code) (r.key code) r.typing number && has (mask (r.modmap code)) real)

  -- a virtual modifier stands for its declared mask and for what the keys are mapped to that bear it; codes are at most 4,095
  abbrev pub stands : ℕ → RealSet
  stands number real = r.masks number real || any_below CODES (brings number real)

-- What keys bear.
use Rattle.std.proofs.Common.{◌≡◌, ◌&&◌, ◌||◌, ◌+◌, ℕ, Bool, false, List, None, is_some, refl, ap, ◌∙◌}
use mathlib.Core.Bool.{or-false}
use Rattle.std.specs.Option.{option_map_or}
use Rattle.kx_keys.specs.Vmodmap.{ReadKeymap, is_in_vmodmap, brings, gives, interpretation_at, is_given}
use Rattle.kx_compat.specs.Interpretations.{Interpretation}
use Rattle.kx_virtual_mods.specs.Sets.{any_below, has, has_virtual}
use Rattle.kx_mods.specs.Mods.{mask}
use Rattle.kx_mods.specs.declared.mods.Mods.{Mods}
use Rattle.kx_keys.proofs.Acting.{any_next, any_none}
use Rattle.kx_keys.specs.Given.{KeyGiven, given_in}
use Rattle.kx_keys.specs.GroupTypes.{content_group, group_levels}
use Rattle.kx_keys.specs.Typing.{Typing}
use Rattle.kx_keys.proofs.Counting.{none_count}

module _ (interpretations : List Interpretation) (modmap : Mods) where
  pub is_in_vmodmap_is : (key : KeyGiven) (typing : Typing) (number : ℕ) → option_map_or (λ set. has_virtual set number) key.virtual_mods (is_given interpretations modmap key typing number) ≡ is_in_vmodmap interpretations modmap key typing number
  unfolding is_in_vmodmap
  is_in_vmodmap_is key typing number = refl

  -- a key that no statement names bears none
  pub none_in_vmodmap : (typing : Typing) (number : ℕ) → is_in_vmodmap interpretations modmap (given_in None) typing number ≡ false
  unfolding is_in_vmodmap
  none_in_vmodmap typing number =
      let test : ℕ → Bool = λ group. any_below (group_levels typing (given_in None) group) (λ level. gives number group level (interpretation_at interpretations modmap (given_in None) (content_group (given_in None) group) level)) in
      ap (λ n. any_below n test) none_count ∙ any_none test

  pub none_brings : (typing : Typing) (number real : ℕ) → (is_in_vmodmap interpretations modmap (given_in None) typing number && has (mask modmap) real) ≡ false
  none_brings typing number real = ap (λ b. b && has (mask modmap) real) (none_in_vmodmap typing number)

-- a code without a name brings nothing
pub unnamed_brings : (r : ReadKeymap) (number real code : ℕ) → r.name code ≡ None → any_below (code + 1) (brings r number real) ≡ any_below code (brings r number real)
unnamed_brings r number real code none =
    any_next (brings r number real) code
    ∙ ap (λ o. any_below code (brings r number real) || (is_some o && (is_in_vmodmap r.interpretations (r.modmap code) (r.key code) r.typing number && has (mask (r.modmap code)) real))) none
    ∙ or-false (any_below code (brings r number real))

-- Whether a key has an action.
use Rattle.std.proofs.Common.{ℕ, zero, suc, ◌+◌, ◌≡◌, ◌||◌, Bool, false, None, is_some, refl, ap, sym, ◌∙◌, subst}
use Rattle.kx_virtual_mods.specs.Sets.{any_below}
use Rattle.kx_keys.specs.Given.{KeyGiven}
use Rattle.kx_keys.specs.GroupTypes.{group_count, has_action}
use Rattle.kx_keys.proofs.Counting.{one_more}

module _ (test : ℕ → Bool) where
  pub any_none : any_below 0 test ≡ false
  unfolding any_below
  any_none = refl

  pub any_next : (n : ℕ) → any_below (n + 1) test ≡ (any_below n test || test n)
  unfolding any_below
  any_next n = subst (λ m. any_below m test ≡ (any_below n test || test n)) (one_more n) refl

module _ (test : ℕ → Bool) (never : (n : ℕ) → test n ≡ false) where
  pub any_never : (n : ℕ) → any_below n test ≡ false
  unfolding any_below
  any_never zero = refl
  any_never (suc n) = λ i. any_never n i || never n i

module _ (key : KeyGiven) where
  pub acts_is : any_below (group_count key) (λ group. any_below (key.width group) (λ level. is_some (key.action group level))) ≡ has_action key
  unfolding has_action
  acts_is = refl

  pub acts_not : ((group level : ℕ) → key.action group level ≡ None) → has_action key ≡ false
  acts_not none =
      let levels : ℕ → Bool = λ group. any_below (key.width group) (λ level. is_some (key.action group level)) in
      sym acts_is ∙ any_never levels (λ group. any_never (λ level. is_some (key.action group level)) (λ level. ap is_some (none group level)) (key.width group)) (group_count key)

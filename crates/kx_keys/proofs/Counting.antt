-- How many groups a key has.
use Rattle.std.proofs.Common.{ℕ, zero, suc, ◌+◌, ◌≡◌, ◌<◌, ◌≤◌, min, nat_lt, Bool, true, false, None, refl, subst, ap, ◌∙◌, arith, sym, eq-or-lt_of_le, lt-suc_self, lt_trans, inl, inr, if◌then◌else◌}
use Rattle.kx_keys.specs.Given.{KeyGiven, given_in}
use Rattle.kx_keys.specs.GroupTypes.{group_count, groups_within, has_level}

pub one_more : (n : ℕ) → suc n ≡ n + 1
one_more n = omega arith

module _ (key : KeyGiven) where
  pub within_none : groups_within key 0 ≡ 0
  unfolding groups_within
  within_none = refl

  pub within_next : (n : ℕ) → groups_within key (n + 1) ≡ (if has_level key n then n + 1 else groups_within key n)
  unfolding groups_within
  within_next n = subst (λ m. groups_within key m ≡ (if has_level key n then m else groups_within key n)) (one_more n) refl

  pub within_all : groups_within key 32 ≡ group_count key
  unfolding group_count
  within_all = refl

  -- groups without levels at the end don't count
  within_upto : (n m : ℕ) → n ≤ m → ((group : ℕ) → n ≤ group → group < m → key.width group ≡ 0) → groups_within key m ≡ groups_within key n
  unfolding groups_within
  within_upto n zero less none = let last : zero ≡ n = omega (arith, less) in ap (groups_within key) last
  within_upto n (suc m) less none =
      elim (eq-or-lt_of_le less) [
        | inl same ↦ sym (ap (groups_within key) same)
        | inr before ↦
            let within : n ≤ m = omega (arith, before) in
            ap (λ w. if nat_lt 0 w then suc m else groups_within key m) (none m within (lt-suc_self m)) ∙ within_upto n m within (λ group from upto. none group from (lt_trans upto (lt-suc_self m)))
      ]

  pub within_few : (most end : ℕ) → ((group : ℕ) → most ≤ group → key.width group ≡ 0) → end ≡ min most 32 → groups_within key end ≡ group_count key
  within_few most end none is =
      let few : end ≤ 32 = omega (arith, is) in
      sym (within_upto end 32 few (λ group from upto. let past : most ≤ group = omega (arith, is, from, upto) in none group past)) ∙ within_all

  groups_few : (n : ℕ) → groups_within key n ≤ n
  unfolding groups_within
  groups_few zero = omega arith
  groups_few (suc n) = by (nat_lt 0 (key.width n)) (groups_few n)
    where
      by : (b : Bool) → groups_within key n ≤ n → (if b then suc n else groups_within key n) ≤ suc n
      by true few = omega arith
      by false few = omega (arith, few)

  pub count_few : group_count key ≤ 32
  unfolding group_count
  count_few = groups_few 32

none_within : (n : ℕ) → groups_within (given_in None) n ≡ 0
unfolding groups_within
none_within zero = refl
none_within (suc n) = none_within n

pub none_count : group_count (given_in None) ≡ 0
unfolding group_count
none_count = none_within 32

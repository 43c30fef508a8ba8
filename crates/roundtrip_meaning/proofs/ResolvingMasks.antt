-- Masks of real modifiers, and what sets stand for.
use Rattle.std.proofs.Common.{◌≡◌, ℕ, zero, suc, ◌+◌, ◌<◌, ◌==◌, ◌^◌, ◌&&◌, ◌||◌, Bool, true, false, cond, map, get_or, refl, sym, ap, ap₂, ◌∙◌, arith, eqb-true}
use Rattle.std.proofs.lemmas.Bool.{eqb-false}
use Rattle.std.proofs.lemmas.List.FromFn.{get_or-map-range_with_len}
use Rattle.std.proofs.lemmas.Nat.Bits.{bit_at_above}
use mathlib.Core.Bool.{or-true, or-false}
use Rattle.std.specs.Int.{bit_at}
use Rattle.std.specs.Int.RustNames.{bit_or}
use Rattle.std.specs.List.{range_with_len}
use Rattle.kx_keys.specs.Rows.{mask_below, mods_of, set_mask}
use Rattle.kx_keys.specs.Selecting.{RealSet, is_live}
use Rattle.kx_virtual_mods.specs.Sets.{any_below, has, has_virtual, real_of, real_part}
use Rattle.kx_virtual_mods.specs.declared.limits.TheConstants.{MOST_VIRTUAL_MODIFIERS}
use Rattle.kx_mods.specs.Mods.{mask}
use Rattle.kx_mods.specs.declared.mods.Mods.{Mods}

-- ---- Tests below a number

pub some_below : (n : ℕ) (f : ℕ → Bool) (k : ℕ) → k < n → f k ≡ true → any_below n f ≡ true
unfolding any_below
some_below zero f k less is = absurd (omega (arith, less))
some_below (suc n) f k less is = by (k == n) refl (some_below n f k)
  where
    by : (t : Bool) → (k == n) ≡ t → (k < n → f k ≡ true → any_below n f ≡ true) → (any_below n f || f n) ≡ true
    by true e rest = ap (λ t. any_below n f || t) (ap f (sym (eqb-true k n e)) ∙ is) ∙ or-true (any_below n f)
    by false e rest = ap (λ t. t || f n) (rest (let other = eqb-false k n e in omega (arith, less, other)) is)

pub none_below : (n : ℕ) (f : ℕ → Bool) → ((k : ℕ) → k < n → f k ≡ false) → any_below n f ≡ false
unfolding any_below
none_below zero f none = refl
none_below (suc n) f none = ap₂ (λ a b. a || b) (none_below n f (λ k less. none k (omega (arith, less)))) (none n (omega arith))

pub below_same : (n : ℕ) (f g : ℕ → Bool) → ((k : ℕ) → k < n → f k ≡ g k) → any_below n f ≡ any_below n g
unfolding any_below
below_same zero f g same = refl
below_same (suc n) f g same = ap₂ (λ a b. a || b) (below_same n f g (λ k less. same k (omega (arith, less)))) (same n (omega arith))

-- ---- Masks

mask_same : (n : ℕ) (s t : RealSet) → ((r : ℕ) → r < n → s r ≡ t r) → mask_below n s ≡ mask_below n t
unfolding mask_below
mask_same zero s t same = refl
mask_same (suc n) s t same = ap₂ (λ m b. bit_or m (cond b (2 ^ n) 0)) (mask_same n s t (λ r less. same r (omega (arith, less)))) (same n (omega arith))

abbrev is_again : ℕ → Bool
is_again m = set_mask (has m) == m

all_again : map is_again (range_with_len 0 256) ≡ map (λ m. true) (range_with_len 0 256)
unfolding mask_below
all_again = refl

by_table : (p : ℕ → Bool) → map p (range_with_len 0 256) ≡ map (λ m. true) (range_with_len 0 256) → (m : ℕ) → m < 256 → p m ≡ true
by_table p all m small = sym (get_or-map-range_with_len p 0 256 m m false small (omega arith)) ∙ ap (λ ts. get_or ts m false) all ∙ get_or-map-range_with_len (λ m. true) 0 256 m m false small (omega arith)

-- the mask of a set that has the bits of a mask
pub mask_again : (m : ℕ) (s : RealSet) → m < 2 ^ 8 → ((r : ℕ) → r < 8 → s r ≡ has m r) → set_mask s ≡ m
mask_again m s small bits = mask_same 8 s (has m) bits ∙ eqb-true (set_mask (has m)) m (by_table is_again all_again m (omega (arith, small)))

pub mods_again : (m : Mods) (s : RealSet) → mask m < 2 ^ 8 → ((r : ℕ) → r < 8 → s r ≡ has (mask m) r) → mods_of s ≡ m
mods_again m s small bits = λ i. record { 0 = mask_again (mask m) s small bits i }

abbrev is_live_mask : ℕ → Bool
is_live_mask m = (m == 0) || any_below 8 (has m)

all_live : map is_live_mask (range_with_len 0 256) ≡ map (λ m. true) (range_with_len 0 256)
unfolding any_below
all_live = refl

-- an entry of real modifiers, or of none, is live
pub live_again : (real : ℕ → RealSet) (m : ℕ) → m < 2 ^ 8 → ((r : ℕ) → r < 8 → real m r ≡ has m r) → is_live real m ≡ true
live_again real m small bits = ap (λ t. (m == 0) || t) (below_same 8 (real m) (has m) bits) ∙ by_table is_live_mask all_live m (omega (arith, small))

-- ---- What sets stand for

-- a set of real modifiers stands for itself, whatever virtual ones do
pub real_stands : (stands : ℕ → ℕ → Bool) (set r : ℕ) → set < 2 ^ 8 → real_of stands set r ≡ has set r
real_stands stands set r small =
    ap₂ (λ m t. has m r || t) (let same : real_part set ≡ set = omega (arith, small) in same)
    (none_below MOST_VIRTUAL_MODIFIERS (λ number. has_virtual set number && stands number r) (λ number less. (ap (λ b. (b == 1) && stands number r) (above number))))
    ∙ or-false (has set r)
  where
    above : (number : ℕ) → bit_at set (number + 8) ≡ 0
    above number = bit_at_above set 8 (number + 8) small (omega arith)

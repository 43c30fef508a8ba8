-- Masks of the bytes at the front of a text that are not of a kind.
use Rattle.std.proofs.Common.{◌≡◌, ◌≢◌, ℕ, suc, zero, ◌*◌, ◌+◌, ◌%◌, ◌^◌, ◌<◌, Bool, true, false, cond, not, List, [], ◌∷◌, length, map, take, refl, ap, ap₂, ◌∙◌, arith, w8, w64, Fits}
use Rattle.std.proofs.lemmas.Bool.{agree_below, agree_below_at}
use Rattle.std.proofs.lemmas.List.{length-map, length-take}
use Rattle.std.proofs.lemmas.Simd.{mask_l-mod, trailing_mask_l}
use Rattle.std.specs.Int.{trailing_zeros}
use Rattle.std.specs.List.{prefix_len}
use Rattle.std.specs.Simd.Lanes.{Each1, mask_l, top}

each_byte : (f : ℕ → ℕ) (p : ℕ → Bool) → agree_below (λ b. top 7 (f b)) p 256 ≡ true → (v : List ℕ) → Each1 (Fits w8) v → map (top 7) (map f v) ≡ map p v
each_byte f p same [] fits = refl
each_byte f p same (b ∷ v) fits = ap₂ (λ (t : Bool) (ts : List Bool). t ∷ ts) (agree_below_at (λ x. top 7 (f x)) p 256 b same fits.0.fits) (each_byte f p same v fits.1)

-- what is computed of each byte of a vector is a test's mask where it agrees with the test at each of the 256 bytes
pub mask-of : (f : ℕ → ℕ) (p : ℕ → Bool) (v : List ℕ) {z : List ℕ} → (length v ≡ 16) × Each1 (Fits w8) v → z ≡ map f v → agree_below (λ b. top 7 (f b)) p 256 ≡ true
    → mask_l (map (top 7) z) % 2 ^ 64 ≡ mask_l (map p v)
mask-of f p v {z} fits is same =
    ap (λ (l : List Bool). mask_l l % 2 ^ 64) (ap (map (top 7)) is ∙ each_byte f p same v fits.1) ∙ mask_l-mod (map p v) 64 (omega (arith, length-map v p, fits.0))

-- the mask of the first n bytes
abbrev pub others : (ℕ → Bool) → ℕ → List ℕ → ℕ
others has n bytes = mask_l (map (λ b. not (has b)) (take n bytes))

-- where a bit is set, the run ends among them
ended : (has : ℕ → Bool) (n : ℕ) (bytes : List ℕ) → 0 < others has n bytes → prefix_len (λ b. not (not (has b))) (take n bytes) ≡ prefix_len has bytes
ended has zero bytes some = absurd (omega arith)
ended has (suc n) [] some = absurd (omega arith)
ended has (suc n) (b ∷ bytes) some = go (has b) some (ended has n bytes)
  where
    go : (t : Bool) → 0 < cond (not t) 1 0 + 2 * others has n bytes → (0 < others has n bytes → prefix_len (λ x. not (not (has x))) (take n bytes) ≡ prefix_len has bytes)
        → cond (not (not t)) (1 + prefix_len (λ x. not (not (has x))) (take n bytes)) 0 ≡ cond t (1 + prefix_len has bytes) 0
    go true set more = ap (λ k. 1 + k) (more (omega arith))
    go false set more = refl

-- and at the lowest that is set
pub run-ends : (has : ℕ → Bool) (bytes : List ℕ) (mask : ℕ) → mask ≡ others has 16 bytes → mask ≢ 0 → trailing_zeros w64 mask ≡ prefix_len has bytes
run-ends has bytes mask is some =
    let set : 0 < others has 16 bytes = omega arith in
    ap (trailing_zeros w64) is ∙ trailing_mask_l (λ b. not (has b)) 64 (take 16 bytes) (omega (arith, length-take 16 bytes)) set ∙ ended has 16 bytes set

-- How many groups the keys have.
use Rattle.std.proofs.Common.{ℕ, suc, List, ◌≡◌, ◌+◌, ◌-◌, ◌*◌, ◌<◌, get_or, arith, ap}
use Rattle.kx_image.specs.Shape.{groups_from}

pub groups_more : (m n start : ℕ) (s : List ℕ) → m ≡ suc n → groups_from m start s ≡ get_or s (start + 5) 0 + groups_from n (start + 16) s
groups_more m n start s e = ap (λ k. groups_from k start s) e

pub groups_step : (keys index start groups b : ℕ) (s : List ℕ) → index < keys → groups + groups_from (keys - index) (start + 16 * index) s ≡ groups_from keys start s → b ≡ get_or s (start + 16 * index + 5) 0 → groups + b + groups_from (keys - (index + 1)) (start + 16 * (index + 1)) s ≡ groups_from keys start s
groups_step keys index start groups b s below total b_is =
    let one : keys - index ≡ suc (keys - (index + 1)) = omega arith in
    let place : start + 16 * index + 16 ≡ start + 16 * (index + 1) = omega arith in
    let more = groups_more (keys - index) (keys - (index + 1)) (start + 16 * index) s one in
    let moved : groups_from (keys - (index + 1)) (start + 16 * index + 16) s ≡ groups_from (keys - (index + 1)) (start + 16 * (index + 1)) s = ap (λ p. groups_from (keys - (index + 1)) p s) place in
    omega (arith, more, moved, total, b_is)

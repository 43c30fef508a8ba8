-- How many bytes of a kind stand at the front of a text, as far as they were seen.
use Rattle.std.proofs.Common.{◌≡◌, ℕ, ◌+◌, Bool, List, length}
use Rattle.std.specs.List.{prefix_len}

-- so many bytes before what is left of a text stand at its front
pub record SoFar (has : ℕ → Bool) (bytes rest : List ℕ) (len : ℕ) : Type 0 where
  pub run : len + prefix_len has rest ≡ prefix_len has bytes
  pub all : len + length rest ≡ length bytes

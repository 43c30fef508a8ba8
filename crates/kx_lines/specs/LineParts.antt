-- What waits of a line moves to the line.
use Rattle.std.specs.Prelude.{◌≡◌, ℕ, ◌==◌, false, List, ◌++◌}
use Rattle.std.specs.List.{All}
use Rattle.kx_lines.specs.EventLines.{KeepsLine, Kept}
use Rattle.kx_lines.specs.Input.{Waiting}

-- a part without a line feed moved from the bytes that wait to the end of a line
pub record MovesPart (old new : Waiting) (kept longer : Kept) : Type 0 where
  pub part : List ℕ
  pub moved : old.bytes ≡ part ++ new.bytes
  pub allowed : new.allowance ≡ old.allowance
  pub free : All (λ byte. (byte == 10) ≡ false) part
  pub keeps : (line : List ℕ) → KeepsLine kept line → KeepsLine longer (line ++ part)

-- What a call leaves where its caller has made room.
use Rattle.std.specs.Prelude.{◌≡◌, ℕ, ◌<◌, ◌≤◌, List, ◌++◌, Option, MatchOption, drop, length}
use Rattle.kx_calls.specs.declared.status.TheConstants.{MISSING, OK, ROOM}

-- bytes are copied where there is room for all of them, in front of what else is there, and counted in any case
pub record Copies (bytes before after : List ℕ) (size status : ℕ) : Type 0 where
  pub counted : size ≡ length bytes
  pub copied : length bytes ≤ length before → (after ≡ bytes ++ drop (length bytes) before) × (status ≡ OK)
  pub refused : length before < length bytes → (after ≡ before) × (status ≡ ROOM)

-- what is found is told as a value of C, and else nothing is
abbrev pub Finds : {X C : Type 0} → (X → C) → Option X → C → C → ℕ → Type 0
Finds in_c found before after status = MatchOption found ((status ≡ MISSING) × (after ≡ before)) (λ x. (status ≡ OK) × (after ≡ in_c x))

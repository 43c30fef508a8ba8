-- Devices over slices: what they hold, and how many bytes a call moves.
use Rattle.std.specs.Prelude.{ℕ, ◌≡◌, ◌<◌, ◌-◌, Bool, false, ◌||◌, ◌==◌, List, length, min, Option, None, Some, if◌then◌else◌}
use Rattle.ks_core.specs.declared.memory.Limits.{Limits}

-- a slice to take from: the bytes that are left, and how many were taken
pub record Source : Type 0 where
  pub left : List ℕ
  pub taken : ℕ
  pub limits : Limits

-- a slice to put to: the bytes put so far, and how many still fit
pub record Sink : Type 0 where
  pub written : List ℕ
  pub room : ℕ
  pub limits : Limits

abbrev pub no_limits : Limits
no_limits = record { most = None; fails_in = None; failures = 0 }

abbrev pub is_zero : Option ℕ → Bool
is_zero None = false
is_zero (Some n) = n == 0

-- the number, and no more than the limit, where there is one
abbrev pub capped : Option ℕ → ℕ → ℕ
capped None n = n
capped (Some limit) n = min n limit

-- the limit, once n bytes are gone
abbrev pub lessened : Option ℕ → ℕ → Option ℕ
lessened None n = None
lessened (Some limit) n = Some (limit - n)

-- how many of n bytes a call moves, or None for a failure
abbrev pub moved : Limits → ℕ → Option ℕ
moved l n = if is_zero l.most || is_zero l.fails_in then None else Some (capped l.fails_in (capped l.most n))

-- how many bytes go into a buffer with that room; with none, no byte goes and nothing fails
abbrev pub taken_of : Source → ℕ → Option ℕ
taken_of s room = if room == 0 then Some 0 else moved s.limits (min (length s.left) room)

-- how many bytes of a piece of that length are put; a device with no room left fails
abbrev pub put_of : Sink → ℕ → Option ℕ
put_of s len = if len == 0 then Some 0 else if s.room == 0 then None else moved s.limits (min s.room len)

-- no call moves a byte from now on; `moves` says how many bytes a call with so many does
abbrev pub FailsForGood : (ℕ → Option ℕ) → Type 0
FailsForGood moves = (len : ℕ) → 0 < len → moves len ≡ None

-- the limits after n bytes moved
abbrev pub after_move : Limits → ℕ → Limits
after_move l n = record { most = l.most; fails_in = lessened l.fails_in n; failures = l.failures }

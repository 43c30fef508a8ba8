-- Letters in upper and lower case, as keysyms.
use Rattle.std.specs.Prelude.{◌≡◌, ℕ, ◌+◌, ◌-◌, ◌%◌, Bool, true, ◌&&◌, List, [], ◌∷◌, nat_le, nat_lt, Option, None, Some, cond}
use Rattle.std.specs.Int.{is_in_range}
use Rattle.kx_text.specs.CaseRuns.{alternating, to_lower, to_upper}

-- keysyms in a row: the first, the last, and what the first becomes
abbrev pub Run : Type 0
Run = ℕ × ℕ × ℕ

-- what a keysym becomes by the first run that it is in
unfoldable pub image_in : List Run → ℕ → Option ℕ
image_in [] keysym = None
image_in (run ∷ runs) keysym = cond (is_in_range run.0 run.1 keysym) (Some (run.2 + (keysym - run.0))) (image_in runs keysym)

-- of an even number of letters in turn: the one in upper case, and the one in lower case after it
abbrev or_else : Option ℕ → ℕ → ℕ
or_else None other = other
or_else (Some number) other = number

abbrev upper_at : ℕ → Option ℕ → ℕ
upper_at keysym None = or_else (image_in to_upper keysym) keysym
upper_at keysym (Some behind) = keysym - behind % 2

abbrev lower_at : ℕ → Option ℕ → ℕ
lower_at keysym None = or_else (image_in to_lower keysym) keysym
lower_at keysym (Some behind) = keysym + (1 - behind % 2)

abbrev pub upper : ℕ → ℕ
upper keysym = upper_at keysym (image_in alternating keysym)

abbrev pub lower : ℕ → ℕ
lower keysym = lower_at keysym (image_in alternating keysym)

-- each run ends where it begins or later, and begins after the one before it; all numbers are keysyms
unfoldable pub follow : ℕ → List Run → Bool
follow low [] = true
follow low (run ∷ runs) = nat_le low run.0 && (nat_le run.0 run.1 && (nat_lt run.1 0x20000000 && (nat_lt run.2 0x20000000 && follow (run.1 + 1) runs)))

pub record AreRuns (runs : List Run) : Type 0 where
  pub in_order : follow 0 runs ≡ true

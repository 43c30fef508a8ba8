-- What lines of events say.
use Rattle.std.specs.Prelude.{◌≡◌, ◌<◌, ℕ, ◌==◌, Bool, true, false, ◌&&◌, ◌||◌, List, [], Option, None, Some, codes, drop, is_some, length, nat_le, nat_lt, take, if◌then◌else◌}
use Rattle.std.specs.Char.{is_ascii_digit}
use Rattle.std.specs.List.{filter_map, list_all, take_while}
use Rattle.std.specs.Str.{bytes_eq}
use Rattle.std.specs.Str.Parse.{digits_value}
use Rattle.kx_run.specs.declared.direction.Direction.{Direction}
use Rattle.kx_run.specs.declared.direction.Direction.TheVariants.{Down, Up}
use Rattle.kx_run.specs.declared.direction.Event.{Event}
use Rattle.kx_lines.specs.declared.event.Said.{Said}
use Rattle.kx_lines.specs.declared.event.Said.TheVariants as said

-- 1 to 5 decimal digits
unfoldable pub has_code_digits : List ℕ → Bool
has_code_digits digits = nat_le 1 (length digits) && nat_le (length digits) 5 && list_all is_ascii_digit digits

-- the number of 1 to 5 decimal digits, at most 65,535
unfoldable pub code_in : List ℕ → Option ℕ
code_in digits = if has_code_digits digits && nat_lt (digits_value 10 digits) 65536 then Some (digits_value 10 digits) else None

abbrev pub event_with : Direction → Option ℕ → Option Event
event_with direction None = None
event_with direction (Some code) = Some (record { code = code; direction = direction })

-- the event of a line: `down` or `up`, one space and a code
unfoldable pub event_of : List ℕ → Option Event
event_of line =
    if bytes_eq (take 5 line) (codes "down ") then event_with Down (code_in (drop 5 line))
    else if bytes_eq (take 3 line) (codes "up ") then event_with Up (code_in (drop 3 line))
    else None

-- an empty line, or one of an event
abbrev pub is_well_formed : List ℕ → Bool
is_well_formed line = (length line == 0) || is_some (event_of line)

-- the lines before the first that is neither
abbrev pub well_formed_lines : List (List ℕ) → List (List ℕ)
well_formed_lines lines = take_while is_well_formed lines

abbrev pub events_in : List (List ℕ) → List Event
events_in lines = filter_map event_of lines

abbrev pub Says : List ℕ → Said → Type 0
Says line said.Nothing = line ≡ []
Says line (said.Event event) = event_of line ≡ Some event
Says line said.Other = is_well_formed line ≡ false

-- what is kept of a line: its bytes, or that it has too many
pub record Kept : Type 0 where
  pub bytes : List ℕ
  pub is_long : Bool

pub record KeepsLine (kept : Kept) (line : List ℕ) : Type 0 where
  pub whole : kept.is_long ≡ false → kept.bytes ≡ line
  pub long : kept.is_long ≡ true → 64 < length line

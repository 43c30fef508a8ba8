use Rattle.std.proofs.Common.{◌≡◌, ℕ, ◌≤◌, Option, length, get_or, drop}
use Rattle.std.specs.Option.{option_or}
use Rattle.std.specs.List.{position_from}
use Rattle.kx_run.specs.Presses.{is_entry_of}
use Rattle.kx_run.proofs.presses.place_all.Given as goal

abbrev pub invariant-loop-place : goal.invariant-loop-place
invariant-loop-place l = record {
  within : l.place ≤ length l.entries;
  long : length l.places ≡ length l.initial.places;
  each : (code : ℕ) (d : Option ℕ) → get_or l.places code d ≡ option_or (position_from (is_entry_of code) l.place (drop l.place l.entries)) (get_or l.initial.places code d);
}

abbrev pub decreases-loop-place : goal.decreases-loop-place
decreases-loop-place l = l.place

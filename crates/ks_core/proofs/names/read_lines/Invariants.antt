use Rattle.std.proofs.Common.{◌≡◌, ◌+◌, ◌≤◌, true, length}
use Rattle.std.specs.List.{list_all}
use Rattle.std.specs.Option.{option_map, option_map_or}
use Rattle.ks_core.specs.Lines.{lines_of, lines_left, is_sound}
use Rattle.ks_core.proofs.ReadLemmas.{ReadSoFar}
use Rattle.ks_core.proofs.names.read_lines.Given as goal

-- what was read, and that the numbers of lines fit
abbrev pub invariant-loop-left : goal.invariant-loop-left
invariant-loop-left l = record {
  read : ReadSoFar (lines_of l.fn.lines) l.number l.given (lines_left (option_map (λ text. text.now) l.left));
  few : l.number + option_map_or (λ text. length text.now + 1) l.left 0 ≤ length l.fn.lines + 1;
  sound : list_all is_sound l.given ≡ true;
}

abbrev pub decreases-loop-left : goal.decreases-loop-left
decreases-loop-left l = option_map_or (λ text. length text.now + 1) l.left 0

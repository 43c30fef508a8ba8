use Rattle.std.proofs.Common.{◌≡◌, length, ◌++◌}
use Rattle.std.specs.Option.{option_map}
use Rattle.kx_parse.specs.IncludeText.{all_parts, joined, split, parts_of}
use Rattle.kx_parse.proofs.part.include_parts.Given as goal

abbrev pub invariant-parts : goal.invariant-parts
invariant-parts l = option_map (λ ps. l.parts.items ++ ps) (all_parts (joined l.mode (split l.rest))) ≡ parts_of l.fn.text

abbrev pub decreases-parts : goal.decreases-parts
decreases-parts l = length l.rest

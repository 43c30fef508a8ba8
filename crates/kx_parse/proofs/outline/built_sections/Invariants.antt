use Rattle.std.proofs.Common.{◌≡◌, map, take}
use Rattle.kx_parse.specs.Outline.{IsOutline, built_from}
use Rattle.kx_parse.proofs.outline.built_sections.Given as goal

abbrev pub invariant-sections : goal.invariant-sections
invariant-sections l = record {
  built : (is : IsOutline l.text l.outline) → l.built.items ≡ take l.number (built_from l.wanted (map (λ s. s.0) is.sections));
}

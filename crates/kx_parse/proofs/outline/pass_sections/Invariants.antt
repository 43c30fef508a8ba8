use Rattle.std.proofs.Common.{List, ℕ, [], length}
use Rattle.kx_lex.specs.declared.token.Span.{Span}
use Rattle.kx_lex.specs.Passing.{Ends, IsAtToken, PassesAs}
use Rattle.kx_parse.specs.Outline.{sections_before}
use Rattle.kx_tree.specs.declared.tree.Section.{Section}
use Rattle.kx_parse.proofs.PassedSections.{Follows}
use Rattle.kx_parse.proofs.outline.pass_sections.Given as goal

abbrev pub invariant-sections : goal.invariant-sections
invariant-sections l = record {
  passes : (end : List ℕ) (all : List Section) (stands : List Span) → PassesAs l.text (sections_before l.text) (Follows all l.sections.items stands l.places.items) l.rest end → PassesAs l.text (sections_before l.text) (Follows all [] stands []) l.initial.rest end;
  at : IsAtToken l.rest;
  ends : Ends l.text l.rest;
}

abbrev pub decreases-sections : goal.decreases-sections
decreases-sections l = length l.rest

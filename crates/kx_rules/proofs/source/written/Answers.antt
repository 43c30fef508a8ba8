use Rattle.std.proofs.Common.{ap, ◌∙◌}
use Rattle.kx_rules.specs.Sources.{source_of}
use Rattle.kx_rules.proofs.Writing.{written_parts}
use Rattle.kx_rules.proofs.source.written.Goals as goal

pub returns : goal.returns
returns c =
    written_parts c.as_slice.ensures.value c.as_slice-2.ensures.value c.as_slice-3.ensures.value c.as_slice-4.ensures.value
    c.new-out.ensures.items c.in_ok-extend_from_slice.ensures.items c.in_ok-push_section.ensures c.in_ok-push_section-2.ensures c.in_ok-push_section-3.ensures c.in_ok-push_section-4.ensures c.in_ok-extend_from_slice-2.ensures.items
    ∙ ap source_of c.components.view_is

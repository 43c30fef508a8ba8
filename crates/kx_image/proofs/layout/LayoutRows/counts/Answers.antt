use Rattle.std.proofs.Common.{ap, ◌∙◌}
use Rattle.kx_tables.specs.Content.{counts_of}
use Rattle.kx_image.proofs.Reading.{counts_told}
use Rattle.kx_image.proofs.layout.LayoutRows.counts.Goals as goal

pub returns : goal.returns
returns c = c.self.invariant.counts_are ∙ counts_told c.self.inside.bytes.now c.self.invariant.end ∙ ap counts_of c.self.view_is

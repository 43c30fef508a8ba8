use Rattle.std.proofs.Common.{ap, ◌∙◌}
use Rattle.kx_builder.proofs.Agreeing.{tables_agree}
use Rattle.kx_builder.proofs.Sounding.{tables_sound}
use Rattle.kx_builder.specs.Placed.{content_of_resolved}
use Rattle.kx_tables.specs.RawTables.{content_of}
use Rattle.kx_builder.proofs.builder.Builder.into_parts.Goals as goal

pub returns-clause-agrees : goal.returns-clause-agrees
returns-clause-agrees c = λ whole. tables_agree (content_of c.self.inside.parts) c.args.self (c.self.invariant ∙ ap content_of_resolved c.self.view_is) whole

pub returns-clause-sound : goal.returns-clause-sound
returns-clause-sound c = λ valid. tables_sound (content_of c.self.inside.parts) c.args.self (c.self.invariant ∙ ap content_of_resolved c.self.view_is) valid

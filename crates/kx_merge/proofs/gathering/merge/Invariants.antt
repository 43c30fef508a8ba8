use Rattle.std.proofs.Common.{drop, []}
use Rattle.indexmap.specs.IndexMap.{get, keys}
use Rattle.kx_include.specs.Shared.{bodies_behind, expanded_body, shared_sections}
use Rattle.kx_merge.proofs.Behind.{Left}
use Rattle.kx_merge.proofs.gathering.merge.Given as goal

abbrev pub invariant-sections : goal.invariant-sections
invariant-sections g l = Left g.R.Fields.form g.R.Key.PartialEq.eq (g.R.Fields.rules l.context) g.R.Fields.moves (keys l.initial.walk.merged.records) (get g.R.Key.PartialEq.eq l.initial.walk.merged.records) (g.R.Fields.rules l.context).start (expanded_body l.expansion) (keys l.walk.merged.records) (get g.R.Key.PartialEq.eq l.walk.merged.records) (g.R.Fields.rules l.context).start (shared_sections (bodies_behind [] l.expansion.maps.items) (drop l.section-index l.expansion.sections.items))

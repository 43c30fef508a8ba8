use Rattle.std.proofs.Common.{Bor, List, ℕ}
use Rattle.kx_builder.proofs.Lighting.{cause_passed, groups_length, name_fits, names_step, no_group_names}
use Rattle.kx_builder.proofs.indicator_maps.push_group_names.Goals as goal
use Rattle.kx_tables.specs.RawTables.{content_of}

pub names-init : goal.names-init
names-init c = no_group_names (content_of c.args.parts.now) c.requires

pub names-preserved : goal.names-preserved
names-preserved c = names_step (content_of c.args.parts.now) c.args.names.now c.names.name-index _ (content_of c.names.parts) (content_of c.push_group_name.new.parts) c.names-test.true c.names.invariant c.in_ok-push_group_name.ensures.added

pub returns-in_err-push_group_name-clause-fault : goal.returns-in_err-push_group_name-clause-fault
returns-in_err-push_group_name-clause-fault c =
    cause_passed c.from_residual.result c.in_err-push_group_name.field-0.0 _ _ _ c.from_residual.ensures.1
    (name_fits (λ (g : Bor (List ℕ)). g.now) (content_of c.args.parts.now) (content_of c.names.parts) c.args.names.now c.names.name-index _ c.names-test.true (groups_length (content_of c.args.parts.now) (content_of c.names.parts) c.args.names.now c.names.name-index c.names.invariant))
    c.in_err-push_group_name.ensures.fault

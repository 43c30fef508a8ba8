use Rattle.std.proofs.Common.{◌≡◌, ◌++◌, ◌∷◌, [], ap, sym, subst, ◌∙◌, append-nil, append_assoc, arith}
use Rattle.kx_resolve.proofs.Steps.{names_next, names_none}
use Rattle.kx_keys.specs.Given.{given}
use Rattle.kx_keys.specs.GroupTypes.{group_count, group_type_name}
use Rattle.kx_keys.specs.Keys.{type_names}
use Rattle.kx_resolve.specs.TypesInUse.{AreUsed}
use Rattle.kx_keys.specs.Typing.{typing_of}
use Rattle.kx_resolve.proofs.types_in_use.use_key.Goals as goal

pub groups-init : goal.groups-init
groups-init c = λ names before.
    let typing = typing_of c.args.typing in
    subst (λ ns. AreUsed typing ns c.args.used.now.names c.args.used.now.group_types.items) (sym (ap (λ ns. names ++ ns) (names_none (given c.args.key.now) typing) ∙ append-nil names)) before

pub groups-preserved : goal.groups-preserved
groups-preserved c = λ names before.
    let typing = typing_of c.args.typing in
    let key = given c.args.key.now in
    let group = c.groups.group in
    subst (λ ns. AreUsed typing ns c.use_group.new.used.names c.use_group.new.used.group_types.items)
    (append_assoc names (type_names typing key group) (group_type_name typing key group ∷ []) ∙ ap (λ ns. names ++ ns) (sym (names_next key typing group)))
    (c.in_ok-use_group.ensures.used (names ++ type_names typing key group) (c.groups.invariant names before))

pub returns-clause-used : goal.returns-clause-used
returns-clause-used c = λ names before.
    let typing = typing_of c.args.typing in
    let all : c.groups.group ≡ group_count (given c.args.key.now) = omega (arith, c.groups-test.false, c.groups.auto.group-end, c.group_count-group-end.ensures.value) in
    subst (λ n. AreUsed typing (names ++ type_names typing (given c.args.key.now) n) c.groups.used.names c.groups.used.group_types.items) all (c.groups.invariant names before)

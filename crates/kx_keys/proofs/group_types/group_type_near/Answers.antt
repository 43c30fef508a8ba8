use Rattle.std.proofs.Common.{ap, ◌∙◌}
use Rattle.kx_keys.specs.Given.{given}
use Rattle.kx_keys.specs.GroupTypes.{type_definition, type_name, wanted_type}
use Rattle.kx_keys.specs.Typing.{typing_of}
use Rattle.kx_keys.proofs.group_types.group_type_near.Goals as goal

pub returns-clause-levels : goal.returns-clause-levels
returns-clause-levels c =
    let typing = typing_of c.args.typing in
    let wanted = c.wanted_type.ensures ∙ ap (wanted_type typing.letters (given c.args.key.now)) c.content_group.ensures in
    c.type_for.ensures.levels ∙ ap (λ w. (type_definition typing (type_name typing w)).levels) wanted

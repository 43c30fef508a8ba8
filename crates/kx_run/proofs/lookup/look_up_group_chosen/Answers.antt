use Rattle.std.proofs.Common.{◌∙◌}
use Rattle.kx_mods.specs.Mods.{mask}
use Rattle.kx_run.proofs.TypeChoices.{chosen_within, group_chosen}
use Rattle.kx_run.proofs.lookup.look_up_group_chosen.Goals as goal

pub level_found-requires-clause-within : goal.level_found-requires-clause-within
level_found-requires-clause-within g c =
    chosen_within (g.T.Rows.content c.args.tables.now) c.args.place c.group_row-group.result (mask c.args.mods) c.choose-choice.result c.requires.sound c.group_row-group.ensures c.choose-choice.ensures.chosen

pub returns-clause-value : goal.returns-clause-value
returns-clause-value g c =
    c.level_found.ensures.value
    ∙ group_chosen (g.T.Rows.content c.args.tables.now) c.args.place c.group_row-group.result (mask c.args.mods) c.choose-choice.result c.requires.sound c.group_row-group.ensures c.choose-choice.ensures.chosen

use Rattle.std.proofs.Common.{arith}
use Rattle.kx_tables.proofs.Bounds.{cells_within, entries_within}
use Rattle.kx_tables.specs.Sound.{TypeHolds}
use Rattle.kx_run.proofs.TableReads.{names_levels}
use Rattle.kx_run.proofs.lookup.look_up_group.Goals as goal

pub choice_of-requires-clause-within : goal.choice_of-requires-clause-within
choice_of-requires-clause-within g c =
    entries_within (g.T.Rows.content c.args.tables.now) c.requires.sound _ c.type_row-row.result c.type_row-row.ensures

pub choice_of-requires-clause-names : goal.choice_of-requires-clause-names
choice_of-requires-clause-names g c =
    names_levels (g.T.Rows.content c.args.tables.now) _ c.type_row-row.result c.requires.sound c.type_row-row.ensures

pub choice_of-requires-clause-levels : goal.choice_of-requires-clause-levels
choice_of-requires-clause-levels g c =
    let holds : TypeHolds (g.T.Rows.content c.args.tables.now) c.group_row-group.result.key_type c.type_row-row.result = c.requires.sound.types _ c.type_row-row.result c.type_row-row.ensures in
    holds.some_level

pub level_found-requires-clause-within : goal.level_found-requires-clause-within
level_found-requires-clause-within g c =
    let within = cells_within (g.T.Rows.content c.args.tables.now) c.requires.sound c.args.place c.group_row-group.result c.type_row-row.result c.group_row-group.ensures c.type_row-row.ensures in
    omega (arith, within, c.choice_of.ensures.choice.chosen.within)

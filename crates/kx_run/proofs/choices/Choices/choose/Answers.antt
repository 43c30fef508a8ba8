use Rattle.std.proofs.Common.{◌≡◌, ℕ, ◌∙◌, List, Some, slice_get, ap, get_or, set, subst, sym}
use Rattle.kx_mods.specs.Mods.{mask}
use Rattle.kx_tables.proofs.Bounds.{entries_within}
use Rattle.kx_tables.specs.Content.{Content}
use Rattle.kx_tables.specs.Sound.{TypeHolds}
use Rattle.kx_tables.specs.declared.rows.TypeRow.{TypeRow}
use Rattle.kx_run.specs.Lookup.{IsChoice, TellsChoices}
use Rattle.kx_run.specs.declared.choices.Choice.{Choice}
use Rattle.kx_run.proofs.TableReads.{names_levels}
use Rattle.kx_run.proofs.TypeChoices.{choice_set, chosen_by, chosen_fresh}
use Rattle.kx_run.proofs.choices.Choices.choose.Goals as goal

-- the choice that was read is one of the row's type
last_holds : (c : Content) (choices items : List Choice) (index place : ℕ) (row : TypeRow) (last : Choice) → items ≡ choices → TellsChoices choices c → slice_get c.types index ≡ Some row → place ≡ index → last ≡ get_or items place last → IsChoice c row last
last_holds c choices items index place row last view told at here read =
    subst (IsChoice c row) (sym (read ∙ ap (λ cs. get_or cs place last) view ∙ ap (λ n. get_or choices n last) here)) (told.each index row last at)

pub returns-then-mask-clause-chosen : goal.returns-then-mask-clause-chosen
returns-then-mask-clause-chosen g c = λ row at.
    let content = g.T.Rows.content c.args.tables.now in
    let last = last_holds content c.args.self.now c.self.inside.choices.items c.args.index c.from-place.result row c.index-last.result.now c.self.view_is c.requires.choices at c.from-place.ensures c.index-last.ensures in
    chosen_by content row (mask c.args.mods) c.index-last.result.now last (sym c.mask.ensures.value ∙ c.if-mask.true ∙ c.mask-2.ensures.value ∙ c.meet-met.ensures)

pub choice_of-choice-requires-clause-within : goal.choice_of-choice-requires-clause-within
choice_of-choice-requires-clause-within g c =
    entries_within (g.T.Rows.content c.args.tables.now) c.key_count-sound.ensures.sound _ c.type_row.result c.type_row.ensures

pub choice_of-choice-requires-clause-names : goal.choice_of-choice-requires-clause-names
choice_of-choice-requires-clause-names g c =
    names_levels (g.T.Rows.content c.args.tables.now) _ c.type_row.result c.key_count-sound.ensures.sound c.type_row.ensures

pub choice_of-choice-requires-clause-levels : goal.choice_of-choice-requires-clause-levels
choice_of-choice-requires-clause-levels g c =
    let holds : TypeHolds (g.T.Rows.content c.args.tables.now) _ c.type_row.result = c.key_count-sound.ensures.sound.types _ c.type_row.result c.type_row.ensures in
    holds.some_level

pub returns-clause-chosen : goal.returns-clause-chosen
returns-clause-chosen g c = λ row at.
    let content = g.T.Rows.content c.args.tables.now in
    let last = last_holds content c.args.self.now c.self.inside.choices.items c.args.index c.from-place.result row c.index-last.result.now c.self.view_is c.requires.choices at c.from-place.ensures c.index-last.ensures in
    chosen_fresh content row c.type_row.result c.args.index (mask c.args.mods) c.index-last.result.now c.choice_of-choice.result at c.type_row.ensures last c.choice_of-choice.ensures.choice (ap mask c.choice_of-choice.ensures.mods ∙ c.meet-met.ensures)

pub returns-clause-choices : goal.returns-clause-choices
returns-clause-choices g c =
    let content = g.T.Rows.content c.args.tables.now in
    let told = subst (λ (cs : List Choice). TellsChoices cs content) (sym c.self.view_is) c.requires.choices in
    subst (λ n. TellsChoices (set c.self.inside.choices.items n c.choice_of-choice.result) content) (sym c.from-place.ensures)
    (choice_set content c.self.inside.choices.items c.args.index c.type_row.result c.choice_of-choice.result told c.type_row.ensures c.choice_of-choice.ensures.choice)

use Rattle.std.proofs.Common.{◌≡◌, ◌+◌, ◌∙◌, ap, arith, get_or, length, length-append, subst, sym}
use Rattle.std.proofs.lemmas.Option.{slice_get_within}
use Rattle.kx_tables.proofs.Bounds.{entries_within}
use Rattle.kx_tables.specs.Sound.{TypeHolds}
use Rattle.kx_tables.specs.declared.tables.Counts.{Counts}
use Rattle.kx_run.proofs.TableReads.{names_levels}
use Rattle.kx_run.proofs.TypeChoices.{choice_push}
use Rattle.kx_run.specs.Lookup.{IsChoice}
use Rattle.kx_run.proofs.choices.Choices.new.Goals as goal

pub choice_of-requires-clause-within : goal.choice_of-requires-clause-within
choice_of-requires-clause-within g c =
    entries_within (g.T.Rows.content c.args.tables.now) c.key_count-sound.ensures.sound _ c.type_row.result c.type_row.ensures

pub choice_of-requires-clause-names : goal.choice_of-requires-clause-names
choice_of-requires-clause-names g c =
    names_levels (g.T.Rows.content c.args.tables.now) _ c.type_row.result c.key_count-sound.ensures.sound c.type_row.ensures

pub choice_of-requires-clause-levels : goal.choice_of-requires-clause-levels
choice_of-requires-clause-levels g c =
    let holds : TypeHolds (g.T.Rows.content c.args.tables.now) _ c.type_row.result = c.key_count-sound.ensures.sound.types _ c.type_row.result c.type_row.ensures in
    holds.some_level

pub loop-index-preserved : goal.loop-index-preserved
loop-index-preserved g c =
    let content = g.T.Rows.content c.args.tables.now in
    let items = c.loop-index.choices.items in
    let row = c.type_row.result in
    let choice = c.choice_of.result in
    let pushed = c.push_reserved.ensures.items in
    record {
      each = λ i t d within read. subst (λ cs. IsChoice content t (get_or cs i d)) (sym pushed) (choice_push content items c.loop-index.index row choice c.loop-index.invariant.long c.loop-index.invariant.each c.type_row.ensures c.choice_of.ensures.choice i t d within read);
      long = ap length pushed ∙ length-append items _ ∙ ap (λ n. n + 1) c.loop-index.invariant.long;
      room = omega (arith, c.push_reserved.ensures.capacity, c.loop-index.invariant.room);
    }

pub returns : goal.returns
returns g c =
    let content = g.T.Rows.content c.args.tables.now in
    let count : c.counts-count.result.types ≡ length content.types = ap (λ (n : Counts). n.types) c.counts-count.ensures in
    let long : c.loop-index.index ≡ length content.types = omega (arith, count, c.loop-index-test.false, c.loop-index.auto.index-end) in
    record {
      long = c.loop-index.invariant.long ∙ long;
      each = λ i t d read. c.loop-index.invariant.each i t d (omega (arith, long, slice_get_within content.types i t read)) read;
    }

use Rattle.std.proofs.Common.{◌<◌, refl, [], ◌∷◌, ◌++◌, List, ℕ, Option, Some, None, IfSome, ◌≡◌, codes, length, map, ap, arith, slice_get}
use Rattle.std.proofs.lemmas.List.{length-map}
use Rattle.ks_core.specs.PrintedName.{printed_name}
use Rattle.kx_tables.specs.Content.{indicator_name}
use Rattle.kx_tables.specs.declared.tables.Counts.{Counts}
use Rattle.kx_lines.specs.Answer.{lit_name}
use Rattle.ks_core.proofs.BufferedOutLemmas.{writes_nothing}
use Rattle.kx_print.proofs.Chosen.{chosen_no, chosen_yes}
use Rattle.kx_print.proofs.Listing.{listed_more}
use Rattle.kx_lines.proofs.Listings.{named_at}
use Rattle.kx_lines.proofs.listing.write_lit_names.Goals as goal
use Rattle.kx_lines.proofs.listing.write_lit_names.Goals.{then-bits-eq1, else-bits-eq1}

-- what is printed of the name that a row has
printed_at : {X : Type 0} (f : X → List ℕ) (found : Option X) (name : List ℕ) → IfSome found (λ x. name ≡ f x) → IfSome found (λ x. printed_name name ≡ printed_name (f x))
printed_at f None name is = tt
printed_at f (Some x) name is = ap printed_name is

pub loop-index-init : goal.loop-index-init
loop-index-init g c =
    ([], record { split = refl }, record { told = writes_nothing g.O.Out.written g.O.Out.failures c.args.out.now c.args.buffered.now; before_is = refl })

pub loop-index-preserved : goal.loop-index-preserved
loop-index-preserved g c =
    let inv = c.loop-index.invariant in
    let rows = (g.T.Rows.content c.args.tables.now).indicators in
    let name_of = lit_name (g.T.Rows.content c.args.tables.now) in
    let plain = indicator_name (g.T.Rows.content c.args.tables.now) in
    let names = map name_of rows in
    let count = ap (λ (n : Counts). n.indicators) c.counts-index-end.ensures in
    let within : c.loop-index.index < length rows = omega (arith, count, c.loop-index-test.true) in
    let among : c.loop-index.index < length names = omega (arith, within, length-map rows name_of) in
    elim c.if-bits-eq1.branch [
      | then-bits-eq1 w ↦
          rw (w.buffered-is, w.out-is, w.before-is) (
            inv.0 ++ printed_name w.indicator_name.result.now ∷ [],
            chosen_yes c.args.lit c.loop-index.bits names c.loop-index.index (printed_name w.indicator_name.result.now) inv.0
                (named_at name_of rows c.loop-index.index (printed_name w.indicator_name.result.now) within (printed_at plain (slice_get rows c.loop-index.index) w.indicator_name.result.now w.indicator_name.ensures)) w.if-bits-eq1.true inv.1,
            listed_more g.O.Out.written g.O.Out.failures (codes ",") c.args.out.now c.loop-index.out w.write_name.new.out c.args.buffered.now c.loop-index.buffered w.write_name.new.buffered c.loop-index.before.now inv.0 (printed_name w.indicator_name.result.now) inv.2 w.write_name.ensures,
          )
      | else-bits-eq1 w ↦
          rw (w.buffered-is, w.out-is, w.before-is) (inv.0, chosen_no c.args.lit c.loop-index.bits names c.loop-index.index inv.0 among w.if-bits-eq1.false inv.1, inv.2)
    ]

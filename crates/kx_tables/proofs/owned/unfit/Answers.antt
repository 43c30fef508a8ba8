use Rattle.std.specs.Prelude.{refl}
use Rattle.std.proofs.Common.{arith}
use Rattle.kx_tables.specs.RawTables.{content_of}
use Rattle.kx_tables.specs.Sound.{IndicatorHolds, GroupNameHolds}
use Rattle.kx_tables.proofs.Fitting.{counts_unfit, row_past, row_read}
use Rattle.kx_tables.proofs.Growing.{each_more}
use Rattle.kx_tables.proofs.owned.unfit.Goals as goal

pub returns-then-len-gt32 : goal.returns-then-len-gt32
returns-then-len-gt32 c = row_past c.args.parts.now.indicators.items (IndicatorHolds (content_of c.args.parts.now)) 32 (omega arith) (λ d holds. let h = holds.place in omega arith)

pub returns-then-len-gt32-2 : goal.returns-then-len-gt32-2
returns-then-len-gt32-2 c = row_past c.args.parts.now.group_names.items (GroupNameHolds (content_of c.args.parts.now)) 32 (omega arith) (λ n holds. let h = holds.place in omega arith)

pub returns-then-index-gt-MOST_GROUPS : goal.returns-then-index-gt-MOST_GROUPS
returns-then-index-gt-MOST_GROUPS c = (c.index.result.now, row_read c.args.parts.now.keys.items c.loop-index.index c.index.result.now (omega arith) c.index.ensures, λ holds. let h = holds.groups in let over = c.if-index-gt-MOST_GROUPS.true in omega arith)

pub loop-index-preserved : goal.loop-index-preserved
loop-index-preserved c = each_more c.args.parts.now.keys.items _ c.loop-index.index c.index.result.now (row_read c.args.parts.now.keys.items c.loop-index.index c.index.result.now (omega arith) c.index.ensures) c.loop-index.invariant c.if-index-gt-MOST_GROUPS.false

pub returns : goal.returns
returns c = (refl, counts_unfit (content_of c.args.parts.now) c.requires (omega arith) (omega arith) (λ i k lt at. c.loop-index.invariant i k (omega arith) at))

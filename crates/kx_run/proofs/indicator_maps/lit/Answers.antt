use Rattle.std.proofs.Common.{◌≡◌, ◌+◌, ◌*◌, ◌-◌, ◌≤◌, ◌∙◌, sym, ap, refl, Bool, true, false, cond, length, map, drop, arith}
use mir.Val.{bool_byte}
use Rattle.kx_tables.specs.Keymap.{indicator_map_of}
use Rattle.kx_run.specs.Replies.{told, lit_mask, is_lit}
use Rattle.kx_run.proofs.TableReads.{groups_few, few_indicator_maps, lit_more, small_more, small_width}
use Rattle.kx_run.proofs.indicator_maps.lit.Goals as goal

byte_is : (b : Bool) → bool_byte b ≡ cond b 1 0
byte_is true = refl
byte_is false = refl

byte_small : (b : Bool) → bool_byte b ≤ 1
byte_small true = omega arith
byte_small false = omega arith

pub overflow_mul-lit : goal.overflow_mul-lit
overflow_mul-lit g c =
    let rows = (g.T.Rows.content c.args.tables.now).indicators in
    let more = small_more c.loop-place.lit 0 (length rows) c.loop-place.place (omega arith) c.loop-place-test.true c.loop-place.invariant.within c.loop-place.invariant.small in
    let wide = small_width (2 * c.loop-place.lit + 0) (length rows) (c.loop-place.place - 1) (few_indicator_maps (g.T.Rows.content c.args.tables.now) c.key_count-sound.ensures.sound) more in
    record { fits = omega arith }

pub overflow_add-lit : goal.overflow_add-lit
overflow_add-lit g c =
    let rows = (g.T.Rows.content c.args.tables.now).indicators in
    let bit : c.from.result ≤ 1 = omega (arith, c.from.ensures, byte_small c.is_lit.result) in
    let more = small_more c.loop-place.lit c.from.result (length rows) c.loop-place.place bit c.loop-place-test.true c.loop-place.invariant.within c.loop-place.invariant.small in
    record { fits = small_width (2 * c.loop-place.lit + c.from.result) (length rows) (c.loop-place.place - 1) (few_indicator_maps (g.T.Rows.content c.args.tables.now) c.key_count-sound.ensures.sound) more }

pub loop-place-preserved : goal.loop-place-preserved
loop-place-preserved g c =
    let rows = (g.T.Rows.content c.args.tables.now).indicators in
    let bit : c.from.result ≤ 1 = omega (arith, c.from.ensures, byte_small c.is_lit.result) in
    let next : c.loop-place.place - 1 + 1 ≡ c.loop-place.place = omega (arith, c.loop-place-test.true) in
    let old : c.loop-place.lit ≡ lit_mask c.args.groups (told c.args.state) (map indicator_map_of (drop (c.loop-place.place - 1 + 1) rows)) =
    c.loop-place.invariant.value ∙ ap (λ n. lit_mask c.args.groups (told c.args.state) (map indicator_map_of (drop n rows))) (sym next) in
    let this : c.from.result ≡ cond (is_lit c.args.groups (told c.args.state) (indicator_map_of c.indicator_row.result)) 1 0 =
    c.from.ensures ∙ byte_is c.is_lit.result ∙ ap (λ b. cond b 1 0) c.is_lit.ensures in
    let more = lit_more c.args.groups (told c.args.state) rows (c.loop-place.place - 1) c.indicator_row.result c.indicator_row.ensures in
    record {
      within = omega (arith, c.loop-place.invariant.within);
      value = omega arith;
      small = small_more c.loop-place.lit c.from.result (length rows) c.loop-place.place bit c.loop-place-test.true c.loop-place.invariant.within c.loop-place.invariant.small;
    }

pub is_lit-requires-clause-few_groups : goal.is_lit-requires-clause-few_groups
is_lit-requires-clause-few_groups g c =
    omega (arith, c.requires, groups_few (g.T.Rows.content c.args.tables.now) c.key_count-sound.ensures.sound)

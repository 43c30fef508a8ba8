use Rattle.std.proofs.Common.{◌<◌, ◌∙◌, All, ap, arith, is_some, length, rules, subst, sym}
use Rattle.std.proofs.lemmas.Fn.{filter_same}
use Rattle.kx_run.specs.declared.held.HeldKey.{HeldKey}
use Rattle.kx_run.specs.Presses.{keys_of, entry_index}
use Rattle.kx_run.proofs.Entries.{ArePlaced-dropped, keys-dropped, length-dropped}
use Rattle.kx_run.proofs.presses.drop_empty.Goals as goal

pub place_all-requires-clause-few : goal.place_all-requires-clause-few
place_all-requires-clause-few c =
    let kept = filter_same _ is_some _ (λ x b f' k. search rules) _ _ c.retain.ensures.filtered in
    omega (arith, c.requires.few, ap length (c.deref.ensures.value ∙ kept), length-dropped c.args.entries.now.items)

pub place_all-requires-clause-codes : goal.place_all-requires-clause-codes
place_all-requires-clause-codes c =
    let kept = filter_same _ is_some _ (λ x b f' k. search rules) _ _ c.retain.ensures.filtered in
    subst (All (λ (key : HeldKey). key.code < length c.args.places.now)) (sym (ap keys_of (c.deref.ensures.value ∙ kept) ∙ keys-dropped c.args.entries.now.items)) c.requires.codes

pub returns-clause-keys : goal.returns-clause-keys
returns-clause-keys c =
    let kept = filter_same _ is_some _ (λ x b f' k. search rules) _ _ c.retain.ensures.filtered in
    ap keys_of kept ∙ keys-dropped c.args.entries.now.items

pub returns-clause-full : goal.returns-clause-full
returns-clause-full c =
    let kept = filter_same _ is_some _ (λ x b f' k. search rules) _ _ c.retain.ensures.filtered in
    ap length kept ∙ length-dropped c.args.entries.now.items

pub returns-clause-placed : goal.returns-clause-placed
returns-clause-placed c =
    let kept = filter_same _ is_some _ (λ x b f' k. search rules) _ _ c.retain.ensures.filtered in
    let same = c.deref.ensures.value in
    λ code d within.
    ArePlaced-dropped c.args.places.now c.place_all.new.places c.args.entries.now.items c.deref.result.now c.place_all.ensures.long c.requires.placed
    (ap keys_of (same ∙ kept) ∙ keys-dropped c.args.entries.now.items) c.place_all.ensures.each code d within
    ∙ ap (entry_index code) same

use Rattle.std.proofs.Common.{◌≡◌, ◌||◌, ◌≤◌, ◌+◌, ◌++◌, ◌∷◌, [], take, length, ap, sym, ◌∙◌}
use Rattle.std.proofs.lemmas.List.{take_all, take_more}
use Rattle.kx_resolve.specs.MappedKeys.{is_brought}
use Rattle.kx_resolve.proofs.Brought.{brought_none, brought_push}
use Rattle.kx_keys.proofs.NameBits.{has_with, or_false}
use Rattle.kx_virtual_mods.specs.Sets.{has}
use Rattle.kx_mods.specs.Mods.{mask}
use Rattle.kx_resolve.proofs.virtual_modifiers.standing.Goals as goal
use Rattle.kx_virtual_mods.proofs.Bits.{or-inner}

pub mapped_keys-init : goal.mapped_keys-init
mapped_keys-init c = λ real. or_false (has (mask c.args.declared) real) (is_brought [] c.args.number real) (brought_none c.args.number real)

pub mapped_keys-preserved : goal.mapped_keys-preserved
mapped_keys-preserved c = λ real.
    let mapped_keys = c.args.mapped_keys.now in
    let index = c.mapped_keys.mapped_key-index in
    let item = c.mapped_key-item.result in
    let more : take (index + 1) mapped_keys ≡ take index mapped_keys ++ item ∷ [] = take_more mapped_keys index item c.mapped_keys-test.true ∙ ap (λ b. take index mapped_keys ++ b ∷ []) (sym c.mapped_key-item.is) in
    ap (λ m. has m real) c.with-mods.ensures
    ∙ has_with (mask c.mapped_keys.mods) (mask c.brought_by.result) real
    ∙ (λ i. c.mapped_keys.invariant real i || c.brought_by.ensures real i)
    ∙ or-inner (has (mask c.args.declared) real) (is_brought (take index mapped_keys) c.args.number real) _
    ∙ ap (λ b. has (mask c.args.declared) real || b) (sym (brought_push (take index mapped_keys) item c.args.number real) ∙ ap (λ bs. is_brought bs c.args.number real) (sym more))

pub returns : goal.returns
returns c = λ real.
    let past : length c.args.mapped_keys.now ≤ c.mapped_keys.mapped_key-index = c.mapped_keys-test.false in
    c.mapped_keys.invariant real ∙ ap (λ bs. has (mask c.args.declared) real || is_brought bs c.args.number real) (take_all c.mapped_keys.mapped_key-index c.args.mapped_keys.now past)

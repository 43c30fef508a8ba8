use Rattle.std.proofs.Common.{◌<◌, ◌+◌, ◌∷◌, [], ap, arith, length, length-append, ◌∙◌}
use Rattle.kx_virtual_mods.specs.Standing.{stands_for}
use Rattle.kx_clients.specs.VirtualModifiers.{mods_among, names_among}
use Rattle.kx_clients.proofs.Lists.{mods_more, names_more}
use Rattle.kx_clients.proofs.virtual_modifier.virtual_modifiers.Goals as goal

pub numbers-preserved : goal.numbers-preserved
numbers-preserved c =
    let all = c.numbers.all.items in
    let names = c.args.modifiers.now.names in
    let m = c.in_ok-virtual_modifier_of.field-0 in
    let were = c.numbers.invariant in
    let within : c.numbers.number < length names = omega (arith, c.numbers-test.true, c.len-number-end.ensures.value) in
    record {
      count = ap length c.in_ok-push.ensures.items ∙ length-append all (m ∷ []) ∙ ap (λ k. k + 1) were.count;
      names = ap names_among c.in_ok-push.ensures.items ∙ names_more all names c.numbers.number m within were.names c.in_ok-virtual_modifier_of.ensures.name;
      mods = λ n real less. ap (λ xs. mods_among xs n real) c.in_ok-push.ensures.items ∙ mods_more all (stands_for c.args.stands.now) c.numbers.number m were.count were.mods c.in_ok-virtual_modifier_of.ensures.mods n real less;
    }

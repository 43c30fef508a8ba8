use Rattle.std.proofs.Common.{◌≡◌, ℕ, ◌+◌, Bool, ap, sym, ◌∙◌, arith}
use Rattle.kx_keys.specs.Given.{given}
use Rattle.kx_keys.specs.GroupTypes.{group_count, group_levels}
use Rattle.kx_keys.specs.InterpretedKey.{InterpretedKey, given_to, gives_at}
use Rattle.kx_keys.specs.Typing.{Typing, typing_of}
use Rattle.kx_virtual_mods.specs.Sets.{any_below, has_virtual}
use Rattle.kx_keys.proofs.Acting.{any_none}
use Rattle.kx_keys.proofs.NameBits.{has_none, next_with}
use Rattle.kx_keys.proofs.interpreted_key.InterpretedKey.given.Goals as goal

abbrev of_group : InterpretedKey → Typing → ℕ → ℕ → Bool
of_group key typing number group = any_below (group_levels typing (given_to key) group) (gives_at key number group)

pub groups-init : goal.groups-init
groups-init c = λ number. ap (λ set. has_virtual set number) c.none-set.ensures ∙ has_none (number + 8) ∙ sym (any_none (of_group c.args.self.now (typing_of c.args.typing) number))

pub groups-preserved : goal.groups-preserved
groups-preserved c = λ number.
    let key = c.args.self.now in
    let typing = typing_of c.args.typing in
    let group = c.groups.group in
    let levels = c.group_type-levels.ensures.levels ∙ ap (λ k. group_levels typing (given k) group) c.record-record.ensures in
    let here : has_virtual c.given_levels.result number ≡ of_group key typing number group = c.given_levels.ensures number ∙ ap (λ n. any_below n (gives_at key number group)) levels in
    ap (λ set. has_virtual set number) c.with-set.ensures ∙ next_with c.groups.set c.given_levels.result (number + 8) group (of_group key typing number) (c.groups.invariant number) here

pub returns : goal.returns
returns c = λ number.
    let key = c.args.self.now in
    let count = c.group_count-group-end.ensures.value ∙ ap (λ k. group_count (given k)) c.record-record.ensures in
    let all : c.groups.group ≡ group_count (given_to key) = omega (arith, c.groups-test.false, c.groups.auto.group-end, count) in
    c.groups.invariant number ∙ ap (λ n. any_below n (of_group key (typing_of c.args.typing) number)) all

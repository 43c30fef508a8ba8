use Rattle.std.proofs.Common.{◌≡◌, ℕ, ◌+◌, Bool, ap, sym, ◌∙◌, arith}
use Rattle.kx_keys.specs.Given.{given}
use Rattle.kx_keys.specs.GroupTypes.{content_group}
use Rattle.kx_keys.specs.InterpretedKey.{gives_at, interpretation_of}
use Rattle.kx_keys.specs.Vmodmap.{gives}
use Rattle.kx_virtual_mods.specs.Sets.{any_below, has_virtual}
use Rattle.kx_keys.proofs.Acting.{any_none}
use Rattle.kx_keys.proofs.NameBits.{has_none, next_with}
use Rattle.kx_keys.proofs.interpreted_key.InterpretedKey.given_levels.Goals as goal

pub levels-init : goal.levels-init
levels-init c = λ number. ap (λ set. has_virtual set number) c.none-set.ensures ∙ has_none (number + 8) ∙ sym (any_none (gives_at c.args.self.now number c.args.group))

pub levels-preserved : goal.levels-preserved
levels-preserved c = λ number.
    let key = c.args.self.now in
    let group = c.args.group in
    let level = c.levels.level in
    let test : ℕ → Bool = gives_at key number group in
    let content = c.content_group-content.ensures ∙ ap (λ k. content_group (given k) group) c.record-record.ensures in
    let here : has_virtual c.given_by.result number ≡ test level = c.given_by.ensures number ∙ ap (gives number group level) (c.interpretation.ensures ∙ ap (λ g. interpretation_of key g level) content) in
    ap (λ set. has_virtual set number) c.with-set.ensures ∙ next_with c.levels.set c.given_by.result (number + 8) level test (c.levels.invariant number) here

pub returns : goal.returns
returns c = λ number.
    let all : c.levels.level ≡ c.args.levels = omega (arith, c.levels-test.false, c.levels.auto.level-end) in
    c.levels.invariant number ∙ ap (λ n. any_below n (gives_at c.args.self.now number c.args.group)) all

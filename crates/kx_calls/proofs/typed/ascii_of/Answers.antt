use Rattle.std.proofs.Common.{◌≡◌, ◌<◌, ℕ, suc, ◌+◌, ◌-◌, true, false, Option, None, Some, is_some, refl, sym, ap, ◌∙◌, arith}
use Rattle.std.specs.Option.{option_or}
use Rattle.kx_run.specs.Replies.{Status}
use Rattle.kx_tables.specs.Keymap.{Keymap, keymap_of}
use Rattle.kx_calls.specs.Typed.{ascii_from, ascii_in}
use Rattle.kx_calls.proofs.typed.ascii_of.Goals as goal

first_of : (found rest : Option ℕ) → is_some found ≡ true → option_or found rest ≡ found
first_of None rest there = absurd (cc)
first_of (Some keysym) rest there = refl

rest_of : (found rest : Option ℕ) → is_some found ≡ false → option_or found rest ≡ rest
rest_of None rest none = refl
rest_of (Some keysym) rest none = absurd (cc)

-- of no groups, and of the groups from one on
ascii_of_none : (keymap : Keymap) (status : Status) (code group count : ℕ) → count ≡ 0 → ascii_from keymap status code group count ≡ None
unfolding ascii_from
ascii_of_none keymap status code group count none = ap (λ n. ascii_from keymap status code group n) none

ascii_step : (keymap : Keymap) (status : Status) (code group count : ℕ) (found : Option ℕ) → group < count → found ≡ ascii_in keymap status code group →
    ascii_from keymap status code group (count - group) ≡ option_or found (ascii_from keymap status code (group + 1) (count - (group + 1)))
unfolding ascii_from
ascii_step keymap status code group count found within is =
    let one : count - group ≡ suc (count - (group + 1)) = omega arith in
    ap (λ n. ascii_from keymap status code group n) one ∙ ap (λ o. option_or o (ascii_from keymap status code (group + 1) (count - (group + 1)))) (sym is)

pub returns-then-is_some-clause-value : goal.returns-then-is_some-clause-value
returns-then-is_some-clause-value c =
    let keymap = keymap_of c.args.follower.now.content in
    let loop = c.loop-group in
    let within : loop.group < keymap.groups = omega (arith, c.loop-group-test.true, c.groups-group-end.ensures) in
    let is : c.ascii_in-found.result ≡ ascii_in keymap c.args.follower.now.status c.args.code loop.group = rw (sym loop.invariant.same) c.ascii_in-found.ensures.value in
    let step = ascii_step keymap c.args.follower.now.status c.args.code loop.group keymap.groups c.ascii_in-found.result within is in
    sym (loop.invariant.left ∙ step ∙ first_of _ _ (sym c.is_some.ensures ∙ c.if-is_some.true))

pub loop-group-preserved : goal.loop-group-preserved
loop-group-preserved c =
    let keymap = keymap_of c.args.follower.now.content in
    let loop = c.loop-group in
    let within : loop.group < keymap.groups = omega (arith, c.loop-group-test.true, c.groups-group-end.ensures) in
    let is : c.ascii_in-found.result ≡ ascii_in keymap c.args.follower.now.status c.args.code loop.group = rw (sym loop.invariant.same) c.ascii_in-found.ensures.value in
    let step = ascii_step keymap c.args.follower.now.status c.args.code loop.group keymap.groups c.ascii_in-found.result within is in
    record {
      same = c.ascii_in-found.ensures.same ∙ loop.invariant.same;
      left = loop.invariant.left ∙ step ∙ rest_of _ _ (sym c.is_some.ensures ∙ c.if-is_some.false);
    }

pub returns-clause-value : goal.returns-clause-value
returns-clause-value c =
    let keymap = keymap_of c.args.follower.now.content in
    let done : keymap.groups - c.loop-group.group ≡ 0 = omega (arith, c.loop-group-test.false, c.groups-group-end.ensures) in
    sym (c.loop-group.invariant.left ∙ ascii_of_none keymap c.args.follower.now.status c.args.code c.loop-group.group _ done)

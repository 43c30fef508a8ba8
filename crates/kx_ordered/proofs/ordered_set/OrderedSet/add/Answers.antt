use Rattle.std.proofs.Common.{arith, ◌<◌, ◌∷◌, [], ◌++◌, cond, vec_len, is_some, sym, ap, subst, ◌∙◌}
use Rattle.std.specs.BTreeMap.{is_at}
use Rattle.std.specs.List.{list_any}
use Rattle.std.specs.Map.{lookup}
use Rattle.kx_ordered.specs.Members.{AreMembers}
use Rattle.kx_ordered.proofs.Numbers.{popped}
use Rattle.kx_ordered.proofs.ordered_set.OrderedSet.add.Goals as goal

pub invariant_of-self : goal.invariant_of-self
invariant_of-self g c = subst (AreMembers g.T.Ord.cmp c.self.inside.members) (sym c.in_err-push.ensures.items) c.self.invariant

pub invariant_of-self-in-Err : goal.invariant_of-self-in-Err
invariant_of-self-in-Err g c =
    let more : 0 < vec_len c.push.new.self = omega (arith, c.in_ok-push.ensures.len) in
    let same = popped c.self.inside.items.items c.pop.new.self.items c.args.item c.pop.result (sym c.in_ok-push.ensures.items ∙ c.pop.ensures.items) (c.pop.ensures.variant.1 more) in
    λ item.
    ap (λ es. is_some (lookup (is_at (g.T.Ord.cmp item)) es)) c.in-Err.ensures.err
    ∙ c.self.invariant item
    ∙ ap (list_any (is_at (g.T.Ord.cmp item))) same

pub returns-in-Err-clause-err : goal.returns-in-Err-clause-err
returns-in-Err-clause-err g c =
    let more : 0 < vec_len c.push.new.self = omega (arith, c.in_ok-push.ensures.len) in
    let same = popped c.self.inside.items.items c.pop.new.self.items c.args.item c.pop.result (sym c.in_ok-push.ensures.items ∙ c.pop.ensures.items) (c.pop.ensures.variant.1 more) in
    sym same ∙ c.self.view_is

pub returns-then-contains_key-clause-added : goal.returns-then-contains_key-clause-added
returns-then-contains_key-clause-added g c =
    let item = c.args.item in
    let now = c.args.self.now in
    let found =
    ap (λ test. list_any test now) (λ i x. g.met.T.Ord.matches_eq item x i)
    ∙ ap (list_any (is_at (g.T.Ord.cmp item))) (sym c.self.view_is)
    ∙ sym (c.self.invariant item)
    ∙ sym c.if-contains_key.ensures in
    sym (ap (λ b. cond b now (now ++ item ∷ [])) found)

pub returns-in-Ok-clause-added : goal.returns-in-Ok-clause-added
returns-in-Ok-clause-added g c =
    let item = c.args.item in
    let now = c.args.self.now in
    let found =
    ap (λ test. list_any test now) (λ i x. g.met.T.Ord.matches_eq item x i)
    ∙ ap (list_any (is_at (g.T.Ord.cmp item))) (sym c.self.view_is)
    ∙ sym (c.self.invariant item)
    ∙ sym c.if-contains_key.ensures in
    c.in_ok-push.ensures.items ∙ ap (λ es. es ++ item ∷ []) c.self.view_is ∙ sym (ap (λ b. cond b now (now ++ item ∷ [])) found)

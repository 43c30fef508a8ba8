use Rattle.std.proofs.Common.{arith, ◌<◌, vec_len, Some, None, ◌≡◌, ◌∷◌, [], ◌++◌, cond, length, sym, ap, subst, ◌∙◌}
use Rattle.std.specs.BTreeMap as tree
use Rattle.std.specs.BTreeMap.{is_at}
use Rattle.std.specs.declared.cmp.Ordering.{Ordering}
use Rattle.std.specs.List.{IsDistinct}
use Rattle.std.specs.Map.{keys_of, lookup}
use Rattle.indexmap.specs.IndexMap.{get}
use Rattle.indexmap.specs.Layout.{hash_map}
use Rattle.std.specs.Option.{option_or}
use Rattle.kx_ordered.specs.Numbers.{numbered}
use Rattle.kx_ordered.specs.KeyPlaces.{ArePlaced, IsEachPlaced, Respects, place_in}
use Rattle.kx_ordered.proofs.KeyPlaces.{by_order, distinct_more, look_again, place_pushed, unplaced}
use Rattle.kx_ordered.proofs.Numbers.{each_by_order, popped}
use Rattle.kx_ordered.proofs.ordered.Ordered.put_by_order.Goals as goal

pub invariant_of-self-in-Err : goal.invariant_of-self-in-Err
invariant_of-self-in-Err g c =
    let es = c.self.inside.entries.items in
    let cmp = g.K.Ord.cmp in
    let number = g.K.TableKey.number in
    let entry : g.row.K.Denot × g.row.V.Denot = (c.args.key, c.args.value) in
    let more : 0 < vec_len c.push.new.self = omega (arith, c.in_ok-push.ensures.len) in
    let same = popped es c.pop.new.self.items entry c.pop.result (sym c.in_ok-push.ensures.items ∙ c.pop.ensures.items) (c.pop.ensures.variant.1 more) in
    let kept : c.self.inside.places.entries ≡ c.insert.new.self.entries = sym c.in-Err.ensures.err in (
      λ k. ap (λ places. option_or (numbered c.self.inside.numbers.items (number k)) (lookup (is_at (cmp k)) places)) (sym kept) ∙ c.self.invariant.0 k ∙ ap (place_in (is_at (cmp k))) same,
      λ compare respects unnumbered. ap (lookup (is_at compare)) (sym kept) ∙ c.self.invariant.1 compare respects unnumbered ∙ ap (place_in (is_at compare)) same,
      subst (λ es. IsDistinct g.K.PartialEq.eq (keys_of es)) same c.self.invariant.2,
    )

pub invariant_of-self-in_default : goal.invariant_of-self-in_default
invariant_of-self-in_default g c =
    let eq = g.K.PartialEq.eq in
    let cmp = g.K.Ord.cmp in
    let es = c.self.inside.entries.items in
    let key = c.args.key in
    let entry : g.row.K.Denot × g.row.V.Denot = (key, c.args.value) in
    let last = c.len-place.ensures ∙ ap (λ m. length m.entries) (sym c.self.view_is) in
    let none = unplaced (eq key) es (subst (λ m. get eq m key ≡ None) (sym c.self.view_is) c.requires) in
    let pushed = sym c.in_ok-push.ensures.items in
    let unplaced_key = by_order eq cmp g.met.K.Ord.matches_eq key es ∙ none in
    let looked : (compare : g.row.K.Denot → Ordering) → Respects cmp compare → tree.get_by compare c.insert.new.self ≡ cond (is_at compare key) (Some (length es)) (tree.get_by compare c.self.inside.places) = λ compare respects. ap (lookup (is_at compare)) c.in_default.ensures.entries ∙ look_again cmp g.met.K.Ord.total compare respects c.self.inside.places.entries key c.in_ok-again.again c.len-place.result c.in_ok-again.ensures ∙ ap (λ n. cond (is_at compare key) (Some n) (lookup (is_at compare) c.self.inside.places.entries)) last in (
      subst (IsEachPlaced cmp g.K.TableKey.number c.self.inside.numbers.items c.insert.new.self) pushed
          (each_by_order cmp g.met.K.Ord.total g.K.TableKey.number g.met.K.TableKey.told es entry unplaced_key c.self.inside.numbers.items c.self.inside.places c.insert.new.self c.self.invariant.0 (λ k. looked (cmp k) (g.met.K.Ord.total.congr k))),
      λ compare respects unnumbered.
          looked compare respects
          ∙ ap (cond (is_at compare key) (Some (length es))) (c.self.invariant.1 compare respects unnumbered)
          ∙ place_pushed cmp g.met.K.Ord.total compare respects es entry unplaced_key ∙ ap (place_in (is_at compare)) pushed,
      subst (λ es. IsDistinct eq (keys_of es)) pushed (distinct_more eq g.met.K.Eq.laws es entry none c.self.invariant.2),
    )

pub returns-clause-unique : goal.returns-clause-unique
returns-clause-unique g c =
    let eq = g.K.PartialEq.eq in
    let es = c.self.inside.entries.items in
    let key = c.args.key in
    let entry : g.row.K.Denot × g.row.V.Denot = (key, c.args.value) in
    let none = unplaced (eq key) es (subst (λ m. get eq m key ≡ None) (sym c.self.view_is) c.requires) in
    let pushed = sym c.in_ok-push.ensures.items in
    subst (λ es. IsDistinct eq (keys_of es)) pushed (distinct_more eq g.met.K.Eq.laws es entry none c.self.invariant.2)

pub invariant_of-self : goal.invariant_of-self
invariant_of-self g c =
    let cmp = g.K.Ord.cmp in
    let number = g.K.TableKey.number in
    let numbers = c.self.inside.numbers.items in
    let places = c.self.inside.places in
    subst (λ es. IsEachPlaced cmp number numbers places es × ArePlaced cmp number places es × IsDistinct g.K.PartialEq.eq (keys_of es)) (sym c.in_err-push.ensures.items) c.self.invariant

pub returns-in-Err-clause-err : goal.returns-in-Err-clause-err
returns-in-Err-clause-err g c =
    let es = c.self.inside.entries.items in
    let entry : g.row.K.Denot × g.row.V.Denot = (c.args.key, c.args.value) in
    let more : 0 < vec_len c.push.new.self = omega (arith, c.in_ok-push.ensures.len) in
    let same = popped es c.pop.new.self.items entry c.pop.result (sym c.in_ok-push.ensures.items ∙ c.pop.ensures.items) (c.pop.ensures.variant.1 more) in
    ap (λ es. hash_map es 0 0) (sym same) ∙ c.self.view_is

pub returns-clause-entries : goal.returns-clause-entries
returns-clause-entries g c = c.in_ok-push.ensures.items ∙ ap (λ m. m.entries ++ (c.args.key, c.args.value) ∷ []) c.self.view_is

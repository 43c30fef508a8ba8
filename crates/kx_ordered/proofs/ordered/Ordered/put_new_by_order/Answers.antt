use Rattle.std.proofs.Common.{arith, ◌<◌, vec_len, Some, None, ◌≡◌, ◌∷◌, [], ◌++◌, cond, length, sym, ap, subst, ◌∙◌}
use Rattle.std.specs.BTreeMap as tree
use Rattle.std.specs.BTreeMap.{is_at}
use Rattle.std.specs.declared.cmp.Ordering.{Ordering}
use Rattle.std.specs.List.{IsDistinct, position}
use Rattle.std.specs.Map.{keys_of, lookup}
use Rattle.std.specs.Option.{option_or}
use Rattle.indexmap.specs.Layout.{hash_map}
use Rattle.kx_ordered.specs.Numbers.{numbered}
use Rattle.kx_ordered.specs.KeyPlaces.{ArePlaced, IsEachPlaced, Respects, place_in}
use Rattle.kx_ordered.proofs.KeyPlaces.{by_order, distinct_more, look_again, no_some, place_is, place_pushed}
use Rattle.kx_ordered.proofs.Numbers.{each_by_order, popped, popped_last}
use Rattle.kx_ordered.proofs.Putting.{kept_there, told_by_tree, was_nowhere, was_there}
use Rattle.kx_ordered.proofs.ordered.Ordered.put_new_by_order.Goals as goal

pub invariant_of-self-in-Ok : goal.invariant_of-self-in-Ok
invariant_of-self-in-Ok g c =
    let eq = g.K.PartialEq.eq in
    let cmp = g.K.Ord.cmp in
    let number = g.K.TableKey.number in
    let es = c.self.inside.entries.items in
    let key = c.args.key in
    let entry : g.row.K.Denot × g.row.V.Denot = (key, c.args.value) in
    let last = c.len-place.ensures ∙ ap (λ m. length m.entries) (sym c.self.view_is) in
    let pushed = sym c.in_ok-push.ensures.items in
    let at = told_by_tree cmp g.met.K.Ord.total number c.self.inside.numbers.items c.self.inside.places es key c.in_ok-again.again c.self.invariant.0 c.requires c.in_ok-again.ensures in
    let unplaced_key = was_nowhere (is_at (cmp key)) es (tree.get cmp c.self.inside.places c.in_ok-again.again) c.in-Ok.found c.len-place.result at c.in-Ok.ensures.found c.if-found-place.true last in
    let none = sym (by_order eq cmp g.met.K.Ord.matches_eq key es) ∙ unplaced_key in
    let looked : (compare : g.row.K.Denot → Ordering) → Respects cmp compare → tree.get_by compare c.place_or_put.new.places ≡ cond (is_at compare key) (Some (length es)) (tree.get_by compare c.self.inside.places) = λ compare respects. ap (lookup (is_at compare)) c.in-Ok.ensures.put ∙ look_again cmp g.met.K.Ord.total compare respects c.self.inside.places.entries key c.in_ok-again.again c.in-Ok.found c.in_ok-again.ensures ∙ ap (λ n. cond (is_at compare key) (Some n) (lookup (is_at compare) c.self.inside.places.entries)) (c.if-found-place.true ∙ last) in (
      subst (IsEachPlaced cmp number c.self.inside.numbers.items c.place_or_put.new.places) pushed
          (each_by_order cmp g.met.K.Ord.total number g.met.K.TableKey.told es entry unplaced_key c.self.inside.numbers.items c.self.inside.places c.place_or_put.new.places c.self.invariant.0 (λ k. looked (cmp k) (g.met.K.Ord.total.congr k))),
      λ compare respects unnumbered.
          looked compare respects
          ∙ ap (cond (is_at compare key) (Some (length es))) (c.self.invariant.1 compare respects unnumbered)
          ∙ place_pushed cmp g.met.K.Ord.total compare respects es entry unplaced_key ∙ ap (place_in (is_at compare)) pushed,
      subst (λ es. IsDistinct eq (keys_of es)) pushed (distinct_more eq g.met.K.Eq.laws es entry none c.self.invariant.2),
    )

pub returns-in-Ok-clause-place : goal.returns-in-Ok-clause-place
returns-in-Ok-clause-place g c =
    let eq = g.K.PartialEq.eq in
    let cmp = g.K.Ord.cmp in
    let es = c.self.inside.entries.items in
    let key = c.args.key in
    let last = c.len-place.ensures ∙ ap (λ m. length m.entries) (sym c.self.view_is) in
    let at = told_by_tree cmp g.met.K.Ord.total g.K.TableKey.number c.self.inside.numbers.items c.self.inside.places es key c.in_ok-again.again c.self.invariant.0 c.requires c.in_ok-again.ensures in
    let unplaced_key = was_nowhere (is_at (cmp key)) es (tree.get cmp c.self.inside.places c.in_ok-again.again) c.in-Ok.found c.len-place.result at c.in-Ok.ensures.found c.if-found-place.true last in
    let none = place_is (eq key) es ∙ sym (by_order eq cmp g.met.K.Ord.matches_eq key es) ∙ unplaced_key in
    sym (subst (λ m. position (eq key) (keys_of m.entries) ≡ None) c.self.view_is none)

pub returns-in-Ok-clause-unique : goal.returns-in-Ok-clause-unique
returns-in-Ok-clause-unique g c =
    let eq = g.K.PartialEq.eq in
    let cmp = g.K.Ord.cmp in
    let es = c.self.inside.entries.items in
    let key = c.args.key in
    let entry : g.row.K.Denot × g.row.V.Denot = (key, c.args.value) in
    let last = c.len-place.ensures ∙ ap (λ m. length m.entries) (sym c.self.view_is) in
    let at = told_by_tree cmp g.met.K.Ord.total g.K.TableKey.number c.self.inside.numbers.items c.self.inside.places es key c.in_ok-again.again c.self.invariant.0 c.requires c.in_ok-again.ensures in
    let unplaced_key = was_nowhere (is_at (cmp key)) es (tree.get cmp c.self.inside.places c.in_ok-again.again) c.in-Ok.found c.len-place.result at c.in-Ok.ensures.found c.if-found-place.true last in
    let none = sym (by_order eq cmp g.met.K.Ord.matches_eq key es) ∙ unplaced_key in
    subst (λ es. IsDistinct eq (keys_of es)) (sym c.in_ok-push.ensures.items) (distinct_more eq g.met.K.Eq.laws es entry none c.self.invariant.2)

pub invariant_of-self-in-Some : goal.invariant_of-self-in-Some
invariant_of-self-in-Some g c =
    let cmp = g.K.Ord.cmp in
    let number = g.K.TableKey.number in
    let es = c.self.inside.entries.items in
    let entry : g.row.K.Denot × g.row.V.Denot = (c.args.key, c.args.value) in
    let more : 0 < vec_len c.push.new.self = omega (arith, c.in_ok-push.ensures.len) in
    let same = popped es c.pop.new.self.items entry c.pop.result (sym c.in_ok-push.ensures.items ∙ c.pop.ensures.items) (c.pop.ensures.variant.1 more) in
    let again = c.in_ok-again.again in
    let at = told_by_tree cmp g.met.K.Ord.total number c.self.inside.numbers.items c.self.inside.places es c.args.key again c.self.invariant.0 c.requires c.in_ok-again.ensures in
    let there = was_there (is_at (cmp c.args.key)) es (tree.get cmp c.self.inside.places again) c.in-Ok.found c.len-place.result at c.in-Ok.ensures.found c.if-found-place.false in
    let kept : (compare : g.row.K.Denot → Ordering) → Respects cmp compare → tree.get_by compare c.place_or_put.new.places ≡ tree.get_by compare c.self.inside.places = λ compare respects. ap (lookup (is_at compare)) c.in-Ok.ensures.put ∙ kept_there cmp g.met.K.Ord.total c.self.inside.places.entries again c.in-Ok.found there compare respects in (
      λ k. ap (option_or (numbered c.self.inside.numbers.items (number k))) (kept (cmp k) (g.met.K.Ord.total.congr k)) ∙ c.self.invariant.0 k ∙ ap (place_in (is_at (cmp k))) same,
      λ compare respects unnumbered. kept compare respects ∙ c.self.invariant.1 compare respects unnumbered ∙ ap (place_in (is_at compare)) same,
      subst (λ es. IsDistinct g.K.PartialEq.eq (keys_of es)) same c.self.invariant.2,
    )

pub returns-in-Some-clause-place : goal.returns-in-Some-clause-place
returns-in-Some-clause-place g c =
    let eq = g.K.PartialEq.eq in
    let cmp = g.K.Ord.cmp in
    let es = c.self.inside.entries.items in
    let key = c.args.key in
    let again = c.in_ok-again.again in
    let at = told_by_tree cmp g.met.K.Ord.total g.K.TableKey.number c.self.inside.numbers.items c.self.inside.places es key again c.self.invariant.0 c.requires c.in_ok-again.ensures in
    let there = was_there (is_at (cmp key)) es (tree.get cmp c.self.inside.places again) c.in-Ok.found c.len-place.result at c.in-Ok.ensures.found c.if-found-place.false in
    let found = place_is (eq key) es ∙ sym (by_order eq cmp g.met.K.Ord.matches_eq key es) ∙ sym at ∙ there in
    sym (subst (λ m. position (eq key) (keys_of m.entries) ≡ Some c.in-Ok.found) c.self.view_is found)

pub invariant_of-self-in-Err : goal.invariant_of-self-in-Err
invariant_of-self-in-Err g c =
    let es = c.self.inside.entries.items in
    let cmp = g.K.Ord.cmp in
    let number = g.K.TableKey.number in
    let entry : g.row.K.Denot × g.row.V.Denot = (c.args.key, c.args.value) in
    let more : 0 < vec_len c.push.new.self = omega (arith, c.in_ok-push.ensures.len) in
    let same = popped es c.pop-in-Err.new.self.items entry c.pop-in-Err.result (sym c.in_ok-push.ensures.items ∙ c.pop-in-Err.ensures.items) (c.pop-in-Err.ensures.variant.1 more) in
    let kept : c.self.inside.places.entries ≡ c.place_or_put.new.places.entries = sym c.in-Err.ensures.err in (
      λ k. ap (λ places. option_or (numbered c.self.inside.numbers.items (number k)) (lookup (is_at (cmp k)) places)) (sym kept) ∙ c.self.invariant.0 k ∙ ap (place_in (is_at (cmp k))) same,
      λ compare respects unnumbered. ap (lookup (is_at compare)) (sym kept) ∙ c.self.invariant.1 compare respects unnumbered ∙ ap (place_in (is_at compare)) same,
      subst (λ es. IsDistinct g.K.PartialEq.eq (keys_of es)) same c.self.invariant.2,
    )

pub returns-in-Ok-clause-put : goal.returns-in-Ok-clause-put
returns-in-Ok-clause-put g c none = c.in_ok-push.ensures.items ∙ ap (λ m. m.entries ++ (c.args.key, c.args.value) ∷ []) c.self.view_is

pub returns-in-Some-clause-back : goal.returns-in-Some-clause-back
returns-in-Some-clause-back g c =
    let es = c.self.inside.entries.items in
    let entry : g.row.K.Denot × g.row.V.Denot = (c.args.key, c.args.value) in
    let more : 0 < vec_len c.push.new.self = omega (arith, c.in_ok-push.ensures.len) in
    let same = popped es c.pop.new.self.items entry c.pop.result (sym c.in_ok-push.ensures.items ∙ c.pop.ensures.items) (c.pop.ensures.variant.1 more) in
    let last = popped_last es c.pop.new.self.items entry (c.in-Some.field-0-0, c.in-Some.value) (sym c.in_ok-push.ensures.items ∙ c.in-Some.ensures.items) in
    (ap (λ e. e.1) last, ap (λ es. hash_map es 0 0) (sym same) ∙ c.self.view_is)

pub returns-in-Some-clause-put : goal.returns-in-Some-clause-put
returns-in-Some-clause-put g c some = absurd (no_some (sym some))

pub returns-in-Some-clause-unique : goal.returns-in-Some-clause-unique
returns-in-Some-clause-unique g c =
    let es = c.self.inside.entries.items in
    let entry : g.row.K.Denot × g.row.V.Denot = (c.args.key, c.args.value) in
    let more : 0 < vec_len c.push.new.self = omega (arith, c.in_ok-push.ensures.len) in
    let same = popped es c.pop.new.self.items entry c.pop.result (sym c.in_ok-push.ensures.items ∙ c.pop.ensures.items) (c.pop.ensures.variant.1 more) in
    subst (λ es. IsDistinct g.K.PartialEq.eq (keys_of es)) same c.self.invariant.2

pub returns-in-Ok-2-clause-unique : goal.returns-in-Ok-2-clause-unique
returns-in-Ok-2-clause-unique g c =
    let es = c.self.inside.entries.items in
    let entry : g.row.K.Denot × g.row.V.Denot = (c.args.key, c.args.value) in
    let more : 0 < vec_len c.push.new.self = omega (arith, c.in_ok-push.ensures.len) in
    let same = popped es c.pop.new.self.items entry c.pop.result (sym c.in_ok-push.ensures.items ∙ c.pop.ensures.items) (c.pop.ensures.variant.1 more) in
    subst (λ es. IsDistinct g.K.PartialEq.eq (keys_of es)) same c.self.invariant.2

pub returns-in-Ok-2-clause-err : goal.returns-in-Ok-2-clause-err
returns-in-Ok-2-clause-err g c =
    let es = c.self.inside.entries.items in
    let entry : g.row.K.Denot × g.row.V.Denot = (c.args.key, c.args.value) in
    let more : 0 < vec_len c.push.new.self = omega (arith, c.in_ok-push.ensures.len) in
    let same = popped es c.pop.new.self.items entry c.pop.result (sym c.in_ok-push.ensures.items ∙ c.pop.ensures.items) (c.pop.ensures.variant.1 more) in
    ap (λ es. hash_map es 0 0) (sym same) ∙ c.self.view_is

pub returns-clause-unique : goal.returns-clause-unique
returns-clause-unique g c =
    let es = c.self.inside.entries.items in
    let entry : g.row.K.Denot × g.row.V.Denot = (c.args.key, c.args.value) in
    let more : 0 < vec_len c.push.new.self = omega (arith, c.in_ok-push.ensures.len) in
    let same = popped es c.pop-in-Err.new.self.items entry c.pop-in-Err.result (sym c.in_ok-push.ensures.items ∙ c.pop-in-Err.ensures.items) (c.pop-in-Err.ensures.variant.1 more) in
    subst (λ es. IsDistinct g.K.PartialEq.eq (keys_of es)) same c.self.invariant.2

pub returns-clause-err : goal.returns-clause-err
returns-clause-err g c =
    let es = c.self.inside.entries.items in
    let entry : g.row.K.Denot × g.row.V.Denot = (c.args.key, c.args.value) in
    let more : 0 < vec_len c.push.new.self = omega (arith, c.in_ok-push.ensures.len) in
    let same = popped es c.pop-in-Err.new.self.items entry c.pop-in-Err.result (sym c.in_ok-push.ensures.items ∙ c.pop-in-Err.ensures.items) (c.pop-in-Err.ensures.variant.1 more) in
    ap (λ es. hash_map es 0 0) (sym same) ∙ c.self.view_is

pub invariant_of-self : goal.invariant_of-self
invariant_of-self g c =
    let cmp = g.K.Ord.cmp in
    let number = g.K.TableKey.number in
    let numbers = c.self.inside.numbers.items in
    let places = c.self.inside.places in
    subst (λ es. IsEachPlaced cmp number numbers places es × ArePlaced cmp number places es × IsDistinct g.K.PartialEq.eq (keys_of es)) (sym c.in_err-push.ensures.items) c.self.invariant

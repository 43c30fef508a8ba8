use Rattle.std.proofs.Common.{◌≡◌, ◌<◌, Some, None, [], ◌∷◌, ◌++◌, OnOk, length, sym, ap, subst, ◌∙◌}
use Rattle.std.specs.Prelude.{IfSome}
use Rattle.std.specs.List.{IsDistinct}
use Rattle.std.specs.Map.{keys_of}
use Rattle.std.specs.BTreeMap as tree
use Rattle.std.specs.Option.{option_or}
use Rattle.indexmap.specs.IndexMap.{get}
use Rattle.kx_ordered.specs.KeyPlaces.{ArePlaced, IsEachPlaced}
use Rattle.kx_ordered.proofs.KeyPlaces.{by_order, distinct_more, unplaced}
use Rattle.kx_ordered.proofs.Numbers.{each_by_number, placed_by_number, set_other, set_same}
use Rattle.kx_ordered.proofs.ordered.Ordered.put.Goals as goal

pub invariant_of-self-in-Some : goal.invariant_of-self-in-Some
invariant_of-self-in-Some g c =
    let eq = g.K.PartialEq.eq in
    let cmp = g.K.Ord.cmp in
    let number = g.K.TableKey.number in
    let es = c.self.inside.entries.items in
    let key = c.args.key in
    let entry : g.row.K.Denot × g.row.V.Denot = (key, c.args.value) in
    let none = unplaced (eq key) es (subst (λ m. get eq m key ≡ None) (sym c.self.view_is) c.requires) in
    let unplaced_key = by_order eq cmp g.met.K.Ord.matches_eq key es ∙ none in
    let last = c.len-place.ensures ∙ ap (λ m. length m.entries) (sym c.self.view_is) in
    let more = c.room_for.new.numbers.items in
    let n = c.in-Some.number in
    let room : (c.number.result ≡ Some n) × (n < length more) = subst (λ o. IfSome o (λ n. (c.number.result ≡ Some n) × (n < length more))) c.in-Some.is c.in_ok-room_for.ensures.room in
    let is : number key ≡ Some n = sym c.number.ensures ∙ room.0 in
    let pushed = sym c.in_ok-push-in-Some.ensures.items in
    let told : c.in-Ok.told ≡ c.len-place.result = c.in-Ok.ensures.1 in
    let places = c.self.inside.places in (
      subst (IsEachPlaced cmp number _ places) pushed (each_by_number cmp g.met.K.Ord.total number g.met.K.TableKey.told es entry unplaced_key n is c.self.inside.numbers.items _ places c.self.invariant.0
          (set_same more n c.in-Ok.told room.1 ∙ ap Some (told ∙ last))
          (λ m apart. set_other more n c.in-Ok.told m apart ∙ c.in_ok-room_for.ensures.same m)),
      subst (ArePlaced cmp number places) pushed (placed_by_number cmp g.met.K.Ord.total number g.met.K.TableKey.told es entry unplaced_key n is places c.self.invariant.1),
      subst (λ es. IsDistinct eq (keys_of es)) pushed (distinct_more eq g.met.K.Eq.laws es entry none c.self.invariant.2),
    )

pub returns-in_ok-push-in-Some-clause-unique : goal.returns-in_ok-push-in-Some-clause-unique
returns-in_ok-push-in-Some-clause-unique g c =
    let eq = g.K.PartialEq.eq in
    let es = c.self.inside.entries.items in
    let key = c.args.key in
    let entry : g.row.K.Denot × g.row.V.Denot = (key, c.args.value) in
    let none = unplaced (eq key) es (subst (λ m. get eq m key ≡ None) (sym c.self.view_is) c.requires) in
    subst (λ es. IsDistinct eq (keys_of es)) (sym c.in_ok-push-in-Some.ensures.items) (distinct_more eq g.met.K.Eq.laws es entry none c.self.invariant.2)

pub invariant_of-self : goal.invariant_of-self
invariant_of-self g c =
    let there = c.self.invariant in
    (λ k. ap (λ n. option_or n (tree.get_by (g.K.Ord.cmp k) c.self.inside.places)) (c.in_err-room_for.ensures.same (g.K.TableKey.number k)) ∙ there.0 k, there.1, there.2)

pub invariant_of-self-in-None : goal.invariant_of-self-in-None
invariant_of-self-in-None g c =
    let there = c.self.invariant in
    (λ k. ap (λ n. option_or n (tree.get_by (g.K.Ord.cmp k) c.self.inside.places)) (c.in_ok-room_for.ensures.same (g.K.TableKey.number k)) ∙ there.0 k, there.1, there.2)

pub invariant_of-self-in_default : goal.invariant_of-self-in_default
invariant_of-self-in_default g c =
    let there = c.self.invariant in
    (λ k. ap (λ n. option_or n (tree.get_by (g.K.Ord.cmp k) c.self.inside.places)) (c.in_ok-room_for.ensures.same (g.K.TableKey.number k)) ∙ there.0 k, there.1, there.2)

pub invariant_of-self-in_err-push-in-Some : goal.invariant_of-self-in_err-push-in-Some
invariant_of-self-in_err-push-in-Some g c =
    let cmp = g.K.Ord.cmp in
    let number = g.K.TableKey.number in
    let places = c.self.inside.places in
    let there = c.self.invariant in
    subst (λ es. IsEachPlaced cmp number c.room_for.new.numbers.items places es × ArePlaced cmp number places es × IsDistinct g.K.PartialEq.eq (keys_of es)) (sym c.in_err-push-in-Some.ensures.items)
    (λ k. ap (λ n. option_or n (tree.get_by (cmp k) places)) (c.in_ok-room_for.ensures.same (number k)) ∙ there.0 k, there.1, there.2)

pub returns-in_default-clause-entries : goal.returns-in_default-clause-entries
returns-in_default-clause-entries g c =
    let call = c.put_by_order-in_default in
    subst (λ m. OnOk call.result (call.new.self.entries ≡ m.entries ++ (c.args.key, c.args.value) ∷ [])) c.self.view_is call.ensures.entries

pub returns-in-None-clause-entries : goal.returns-in-None-clause-entries
returns-in-None-clause-entries g c =
    let call = c.put_by_order in
    subst (λ m. OnOk call.result (call.new.self.entries ≡ m.entries ++ (c.args.key, c.args.value) ∷ [])) c.self.view_is call.ensures.entries

pub returns-in_ok-push-in-Some-clause-entries : goal.returns-in_ok-push-in-Some-clause-entries
returns-in_ok-push-in-Some-clause-entries g c = c.in_ok-push-in-Some.ensures.items ∙ ap (λ m. m.entries ++ (c.args.key, c.args.value) ∷ []) c.self.view_is

use Rattle.std.proofs.Common.{sym, subst}
use Rattle.std.specs.List.{IsDistinct}
use Rattle.std.specs.Map.{keys_of}
use Rattle.kx_ordered.specs.KeyPlaces.{ArePlaced, IsEachPlaced}
use Rattle.kx_ordered.proofs.ordered.Ordered.make_room.Goals as goal

pub invariant_of-self : goal.invariant_of-self
invariant_of-self g c =
    let cmp = g.K.Ord.cmp in
    let number = g.K.TableKey.number in
    let numbers = c.self.inside.numbers.items in
    let places = c.self.inside.places in
    subst (λ es. IsEachPlaced cmp number numbers places es × ArePlaced cmp number places es × IsDistinct g.K.PartialEq.eq (keys_of es)) (sym c.in_err-reserve.ensures.items) c.self.invariant

pub invariant_of-self-2 : goal.invariant_of-self-2
invariant_of-self-2 g c =
    let cmp = g.K.Ord.cmp in
    let number = g.K.TableKey.number in
    let numbers = c.self.inside.numbers.items in
    let places = c.self.inside.places in
    subst (λ es. IsEachPlaced cmp number numbers places es × ArePlaced cmp number places es × IsDistinct g.K.PartialEq.eq (keys_of es)) (sym c.in_ok-reserve.ensures.items) c.self.invariant

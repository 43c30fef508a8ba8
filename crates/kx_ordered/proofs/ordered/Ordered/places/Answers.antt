use Rattle.std.proofs.Common.{subst}
use Rattle.kx_ordered.specs.KeyPlaces.{ArePlaced}
use Rattle.kx_ordered.proofs.ordered.Ordered.places.Goals as goal

pub returns : goal.returns
returns g c = subst (λ m. ArePlaced g.K.Ord.cmp g.K.TableKey.number c.self.inside.places m.entries) c.self.view_is c.self.invariant.1

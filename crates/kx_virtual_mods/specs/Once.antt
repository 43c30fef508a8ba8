-- A law of rules: no statement offers a record twice.
use Rattle.std.specs.Prelude.{Bool, map}
use Rattle.std.specs.List.{IsDistinct}
use Rattle.kx_include.specs.declared.place.Place.{Place}
use Rattle.kx_merge.specs.Bodies.{Rules}
use Rattle.kx_merge.specs.Offers.{Offer}
use Rattle.kx_tree.specs.declared.tree.Stated.{Stated}

abbrev pub OffersOnce : {K C V D : Type 0} → (K → K → Bool) → Rules K C V D → Type 0
OffersOnce {K} {C} {V} {D} eq rules = (defaults : D) (place : Place) (stated : Stated) → IsDistinct eq (map (λ (o : Offer K C V). o.name) (rules.offers defaults place stated))

-- Statements that say nothing of what rules are about.
use Rattle.std.proofs.Common.{◌≡◌, Bool, List, [], ◌∷◌, ◌++◌, refl, ap, ap₂, ◌∙◌}
use Rattle.kx_include.specs.Expansion.{Body, Own}
use Rattle.kx_include.specs.declared.place.Place.{Place}
use Rattle.kx_lex.specs.declared.fault.Fault.{Fault}
use Rattle.kx_merge.specs.Bodies.{Rules, Moves, offers, faults}
use Rattle.kx_merge.specs.Offers.{Offer}
use Rattle.kx_tree.specs.declared.tree.Stated.{Stated}
use Rattle.roundtrip_meaning.specs.Bodies.{own_body}
use Rattle.roundtrip_text.specs.Source.{EachOf}

pub own_append : (place : Place) (is js : List Stated) (rest : Body) → own_body place (is ++ js) rest ≡ own_body place is (own_body place js rest)
own_append place [] js rest = refl
own_append place (i ∷ is) js rest = ap (Own place i) (own_append place is js rest)

-- some items, others and others again
pub own_append3 : (place : Place) (is js ks : List Stated) (rest : Body) → own_body place (is ++ (js ++ ks)) rest ≡ own_body place is (own_body place js (own_body place ks rest))
own_append3 place is js ks rest = own_append place is (js ++ ks) rest ∙ ap (own_body place is) (own_append place js ks rest)

module _ {K C V D : Type 0} (rules : Rules K C V D) where
  -- under the defaults it offers nothing, is no fault and leaves the defaults
  pub record IsSilent (place : Place) (d : D) (stated : Stated) : Type 0 where
    pub next_is : rules.next d stated ≡ d
    pub offers_none : rules.offers d place stated ≡ []
    pub faults_none : rules.faults d place stated ≡ []

  module _ (eq : K → K → Bool) (moves : Moves K C) (place : Place) (d : D) where
    pub silent_offers : (is : List Stated) (rest : Body) → EachOf (IsSilent place d) is → offers eq rules moves d (own_body place is rest) ≡ offers eq rules moves d rest
    silent_offers [] rest each = refl
    silent_offers (i ∷ is) rest each = ap₂ (λ (os : List (Offer K C V)) d. os ++ offers eq rules moves d (own_body place is rest)) each.0.offers_none each.0.next_is ∙ silent_offers is rest each.1

    pub silent_faults : (is : List Stated) (rest : Body) → EachOf (IsSilent place d) is → faults eq rules moves d (own_body place is rest) ≡ faults eq rules moves d rest
    silent_faults [] rest each = refl
    silent_faults (i ∷ is) rest each = ap₂ (λ (fs : List Fault) d. fs ++ faults eq rules moves d (own_body place is rest)) each.0.faults_none each.0.next_is ∙ silent_faults is rest each.1

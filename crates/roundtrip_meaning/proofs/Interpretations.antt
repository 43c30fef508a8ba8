-- There are no interpretations in what is printed.
use Rattle.std.proofs.Common.{◌≡◌, List, [], ◌∷◌, ◌++◌, map, refl, ap, ◌∙◌}
use Rattle.std.specs.List.{flat_map}
use Rattle.ks_core.specs.Table.{KeysymTable}
use Rattle.kx_builder.specs.IndicatorMaps.{ResolvedIndicator}
use Rattle.kx_compat.specs.SameMatch.{same_match}
use Rattle.kx_compat.specs.Meaning.{InterpretationOffer, compat_faults, compat_rules, interpretation_by, interpretation_offers, interpretations_of, said_offers}
use Rattle.kx_compat.specs.Sections.{interpretation_in, next_default, no_defaults, stated_faults}
use Rattle.kx_include.specs.Expansion.{Body, Begin, End}
use Rattle.kx_include.specs.declared.place.Place.{Place}
use Rattle.kx_merge.specs.Bodies.{no_moves}
use Rattle.kx_merge.specs.Offers.{names_of}
use Rattle.kx_tree.specs.declared.tree.Stated.{Stated}
use Rattle.kx_symbols.specs.Keys.{field_in}
use Rattle.roundtrip_meaning.specs.Bodies.{own_body}
use Rattle.roundtrip_meaning.proofs.Offered.{offers_shown, faults_shown}
use Rattle.roundtrip_tree.proofs.Statements.{stated_as}
use Rattle.roundtrip_tree.specs.Indicators.{IsIndicator}
use Rattle.roundtrip_tree.specs.Shows.{AreShown, IsStated}

abbrev IsIndicatorStated : ResolvedIndicator → Stated → Type 0
IsIndicatorStated d i = IsStated (IsIndicator d) i

stays : (d : ResolvedIndicator) (i : Stated) → IsIndicatorStated d i → next_default [] no_defaults (field_in i.statement) ≡ no_defaults
stays d i is = ap (λ said. next_default [] no_defaults (field_in said)) is.shows.is

none_given : (ds : List ResolvedIndicator) → flat_map (λ (d : ResolvedIndicator). let os : List InterpretationOffer = [] in os) ds ≡ []
none_given [] = refl
none_given (d ∷ ds) = none_given ds

module _ (table : KeysymTable) (place : Place) (ds : List ResolvedIndicator) (is : List Stated) (shown : AreShown (λ d i. IsStated (IsIndicator d) i) ds is) where
  abbrev compat : Body
  compat = Begin (own_body place is End)

  offers_none : interpretation_offers table [] compat ≡ []
  offers_none =
      offers_shown same_match (compat_rules table []) no_moves IsIndicatorStated (λ d. []) no_defaults place
      (λ d i is. ap (λ said. said_offers table [] no_defaults i.mode (interpretation_in said)) is.shows.is) stays ds is End shown
      ∙ ap (λ os. os ++ []) (none_given ds)

  pub no_interpretations : interpretations_of table [] compat ≡ []
  no_interpretations = ap (λ os. map (interpretation_by os) (names_of same_match os)) offers_none

  pub interpretations_faultless : compat_faults table [] compat ≡ []
  interpretations_faultless =
      faults_shown same_match (compat_rules table []) no_moves IsIndicatorStated no_defaults place
      (λ d i one. ap (stated_faults place.file []) (stated_as i one _ one.shows.is)) stays ds is End shown

-- without indicators there is no section
pub none_without : (table : KeysymTable) → interpretations_of table [] End ≡ []
none_without table = refl

pub faultless_without : (table : KeysymTable) → compat_faults table [] End ≡ []
faultless_without table = refl

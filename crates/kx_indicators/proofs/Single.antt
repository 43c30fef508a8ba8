-- A statement offers an indicator once.
use Rattle.std.proofs.Common.{ℕ, nat_eq, List, Option, None, Some, map, position}
use Rattle.std.specs.List.{IsDistinct}
use Rattle.std.specs.Str.{bytes_eq}
use Rattle.kx_lex.specs.declared.name.Name.{Name}
use Rattle.kx_virtual_mods.specs.Once.{OffersOnce}
use Rattle.kx_tree.specs.declared.tree.Field.{Field}
use Rattle.kx_tree.specs.declared.tree.Mode.{Mode}
use Rattle.kx_indicators.specs.Blocks.{indicator_in, values_of}
use Rattle.kx_indicators.specs.Given.{IndicatorMapValues}
use Rattle.kx_indicators.specs.Meaning.{IndicatorMapOffer, indicator_map_rules, said_offers}
use Rattle.kx_merge.specs.Offers.{offers_to}
use Rattle.kx_indicators.specs.Giving.{values_cell}

abbrev AreApart : List IndicatorMapOffer → Type 0
AreApart os = IsDistinct nat_eq (map (λ (o : IndicatorMapOffer). o.name) os)

one_number : (mode : Mode) (values : IndicatorMapValues) (o : Option ℕ) → AreApart (offers_to values_cell mode values o)
unfolding IsDistinct
one_number mode values None = tt
one_number mode values (Some number) = (tt, tt)

module _ (indicator_maps names : List (List ℕ)) where
  one_said : (d : IndicatorMapValues) (mode : Mode) (o : Option (Name × List Field)) → AreApart (said_offers indicator_maps names d mode o)
  unfolding IsDistinct
  one_said d mode None = tt
  one_said d mode (Some i) = one_number mode (values_of names d i.1) (position (bytes_eq i.0.bytes) indicator_maps)

  pub indicators_once : OffersOnce nat_eq (indicator_map_rules indicator_maps names)
  unfolding IsDistinct
  indicators_once d place stated = one_said d stated.mode (indicator_in stated.statement)

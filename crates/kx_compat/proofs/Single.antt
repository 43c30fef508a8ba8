-- A statement offers an interpretation once.
use Rattle.std.proofs.Common.{ℕ, List, Option, None, Some, map}
use Rattle.std.specs.List.{IsDistinct}
use Rattle.ks_core.specs.Table.{KeysymTable}
use Rattle.kx_virtual_mods.specs.Once.{OffersOnce}
use Rattle.kx_tree.specs.declared.tree.Mode.{Mode}
use Rattle.kx_compat.specs.SameMatch.{same_match}
use Rattle.kx_compat.specs.declared.interpretation_match.InterpretationMatch.{InterpretationMatch}
use Rattle.kx_compat.specs.Given.{FieldValues}
use Rattle.kx_compat.specs.Meaning.{InterpretationOffer, compat_rules, said_offers}
use Rattle.kx_compat.specs.Sections.{Interpreted, interpretation_in, values_of}
use Rattle.kx_compat.specs.Matches.{match_of}
use Rattle.kx_compat.specs.declared.defaults.CompatDefaults.{CompatDefaults}
use Rattle.kx_merge.specs.Offers.{offers_to}
use Rattle.kx_compat.specs.Giving.{values_cell}

abbrev AreApart : List InterpretationOffer → Type 0
AreApart os = IsDistinct same_match (map (λ (o : InterpretationOffer). o.name) os)

one_match : (mode : Mode) (values : FieldValues) (o : Option InterpretationMatch) → AreApart (offers_to values_cell mode values o)
unfolding IsDistinct
one_match mode values None = tt
one_match mode values (Some interpretation_match) = (tt, tt)

module _ (table : KeysymTable) (names : List (List ℕ)) where
  one_said : (d : CompatDefaults) (mode : Mode) (o : Option Interpreted) → AreApart (said_offers table names d mode o)
  unfolding IsDistinct
  one_said d mode None = tt
  one_said d mode (Some i) = one_match mode (values_of names d i.2) (match_of table i.0 i.1)

  pub interpretations_once : OffersOnce same_match (compat_rules table names)
  unfolding IsDistinct
  interpretations_once d place stated = one_said d stated.mode (interpretation_in stated.statement)

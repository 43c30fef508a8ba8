-- The pairs that a keycodes body leaves, in the rule's own words: offer by offer, with no list of pairs that changes.
use Rattle.std.specs.Prelude.{◌≡◌, ◌⊎◌, false, List, [], ◌∷◌, ◌++◌, map}
use Rattle.kx_codes.specs.Pairs.{Pair, pairs_of, shares}
use Rattle.kx_include.specs.Expansion.{Body, End, Begin, Own, Inc}
use Rattle.kx_tree.specs.declared.tree.Mode.{Mode}
use Rattle.kx_tree.specs.declared.tree.Mode.TheVariants.{Augment}
use Rattle.kx_tree.specs.declared.tree.Statement.{Statement}
use Rattle.kx_tree.specs.declared.tree.Statement.TheVariants.{Keycode}

pub record PairOffer : Type 0 where
  pub mode : Mode
  pub pair : Pair

abbrev pub said_offers : Mode → Statement → List PairOffer
said_offers mode (Keycode name code) = record { mode = mode; pair = record { name = name.bytes; code = code.value } } ∷ []
said_offers mode _ = []

-- a body's offers, in order: a statement offers its pair, an include those that its body leaves
abbrev pub offers_of : Body → List PairOffer
offers_of End = []
offers_of (Begin rest) = offers_of rest
offers_of (Own place stated rest) = said_offers stated.mode stated.statement ++ offers_of rest
offers_of (Inc mode group body rest) = map {A = Pair} {B = PairOffer} (λ p. record { mode = mode; pair = p }) (pairs_of body) ++ offers_of rest

-- an offer is taken, unless it augments and a pair is left that shares its name or its code
abbrev pub IsTaken : PairOffer → (Pair → Type 0) → Type 0
IsTaken offer left = offer.mode ≡ Augment → (p : Pair) → left p → shares offer.pair p ≡ false

-- a pair is left after offers, of which the last stands first: the last is taken and is its own, or it was left before, and
-- the last is not taken or shares neither its name nor its code
abbrev pub IsLeft : List PairOffer → Pair → Type 0
IsLeft [] p = ⊥
IsLeft (last ∷ before) p = ((p ≡ last.pair) × IsTaken last (IsLeft before)) ⊎ (IsLeft before p × (IsTaken last (IsLeft before) → shares last.pair p ≡ false))

-- The names that keycodes sections give indicators: `indicator 1 = "Caps Lock"`.
use Rattle.std.specs.Prelude.{◌≡◌, ℕ, ◌+◌, ◌<◌, ◌&&◌, nat_eq, nat_le, List, [], ◌∷◌, length, slice_get, Option, None, Some, unwrap_or, if◌then◌else◌}
use Rattle.std.specs.Option.{option_map_or}
use Rattle.indexmap.specs.IndexMap.{IndexMap, get}
use Rattle.kx_basics.specs.declared.limits.TheConstants.{MOST_NAME_BYTES}
use Rattle.kx_include.specs.Expansion.{Body}
use Rattle.kx_merge.specs.Bodies.{Moves, Rules, offers_of}
use Rattle.kx_merge.specs.Offers.{Offer, plain_offer, value_of}
use Rattle.kx_merge.specs.Records.{cell_in}
use Rattle.kx_merge.specs.Single.{single_form, single_moves, single_rules}
use Rattle.kx_merge.specs.declared.single.Single.{Single}
use Rattle.kx_tree.specs.declared.tree.Mode.{Mode}
use Rattle.kx_tree.specs.declared.tree.Statement.{Statement}
use Rattle.kx_tree.specs.declared.tree.Statement.TheVariants as statements
use Rattle.kx_clients.specs.declared.indicators.TheConstants.{INDICATORS}

-- a number from 1 to 32, and a name of at most 255 bytes
abbrev pub named_indicator : Statement → Option (ℕ × List ℕ)
named_indicator (statements.IndicatorName number name) = if nat_le 1 number.value && (nat_le number.value INDICATORS && nat_le (length name.bytes) MOST_NAME_BYTES) then Some (number.value, name.bytes) else None
named_indicator _ = None

abbrev pub named_offers : Mode → Option (ℕ × List ℕ) → List (Offer ℕ (Unit {0}) (List ℕ))
named_offers mode named = option_map_or (λ n. plain_offer mode n.0 (λ _. Some n.1) ∷ []) named []

abbrev pub indicator_rules : Rules ℕ (Unit {0}) (List ℕ) (Unit {0})
indicator_rules = single_rules (λ place stated. named_offers stated.mode (named_indicator stated.statement)) (λ place stated. [])

abbrev pub kept_number : ℕ → ℕ → Option ℕ
kept_number n number = Some number

abbrev pub indicator_moves : Moves ℕ (Unit {0})
indicator_moves = single_moves kept_number

-- the name that a keycodes body gives the indicator of a number, by precedence; no bytes where it gives none
abbrev pub indicator_name : Body → ℕ → List ℕ
indicator_name body number = unwrap_or (value_of nat_eq (offers_of nat_eq indicator_rules indicator_moves body) number tt) []

abbrev pub name_at : List (List ℕ) → ℕ → List ℕ
name_at names place = unwrap_or (slice_get names place) []

-- names by number, of which the first is 1
pub record AreIndicatorNames (names : List (List ℕ)) (body : Body) : Type 0 where
  pub all : length names ≡ INDICATORS
  pub each : (place : ℕ) → place < INDICATORS → name_at names place ≡ indicator_name body (place + 1)

-- ---- Under names, for clauses

abbrev pub name_offer : Mode → ℕ → List ℕ → Offer ℕ (Unit {0}) (List ℕ)
name_offer mode number name = plain_offer mode number (λ _. Some name)

abbrev pub name_recorded : {S : Type 0} → IndexMap ℕ (Single (List ℕ)) S → ℕ → List ℕ
name_recorded records number = unwrap_or (cell_in single_form (get nat_eq records number) tt) []

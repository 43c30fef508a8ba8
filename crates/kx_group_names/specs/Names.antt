-- The names of groups by precedence.
use Rattle.std.specs.Prelude.{◌≡◌, ℕ, ◌+◌, ◌-◌, ◌<◌, ◌≤◌, ◌==◌, nat_eq, List, [], ◌∷◌, length, slice_get, Option, None, Some, unwrap_or, if◌then◌else◌}
use Rattle.std.specs.Option.{option_and_then, option_map_or}
use Rattle.indexmap.specs.IndexMap.{IndexMap, get}
use Rattle.kx_basics.specs.declared.limits.TheConstants.{MOST_GROUPS}
use Rattle.kx_include.specs.Expansion.{Body}
use Rattle.kx_merge.specs.Bodies.{Rules, Moves, offers_of}
use Rattle.kx_merge.specs.Numbers.{number_at}
use Rattle.kx_merge.specs.Offers.{Offer, value_of, plain_offer}
use Rattle.kx_merge.specs.Records.{cell_in}
use Rattle.kx_merge.specs.Single.{single_form, single_moves, single_rules}
use Rattle.kx_merge.specs.declared.numbers.Counted.TheVariants.{Group}
use Rattle.kx_merge.specs.declared.single.Single.{Single}
use Rattle.kx_tree.specs.declared.tree.Field.{Field}
use Rattle.kx_tree.specs.declared.tree.Mode.{Mode}
use Rattle.kx_tree.specs.declared.tree.Stated.{Stated}
use Rattle.kx_group_names.specs.Fields.{indexed_group, name_in, set_text, stated_faults}

-- a group, counted from 1, has one cell, its name
abbrev pub offered : Mode → Option ℕ → Option (List ℕ) → List (Offer ℕ (Unit {0}) (List ℕ))
offered mode (Some group) (Some text) = plain_offer mode group (λ _. Some text) ∷ []
offered mode _ _ = []

abbrev pub stated_offers : Stated → List (Offer ℕ (Unit {0}) (List ℕ))
stated_offers stated = option_map_or (λ field. offered stated.mode (option_and_then (λ i. number_at Group i.value) field.place.index) (set_text field.setting)) (name_in stated.statement) []

abbrev pub name_rules : Rules ℕ (Unit {0}) (List ℕ) (Unit {0})
name_rules = single_rules (λ place stated. stated_offers stated) (λ place stated. stated_faults place.file stated)

-- the name of group 1 becomes that of the group of the move, and the others go
abbrev pub name_moves : Moves ℕ (Unit {0})
name_moves = single_moves (λ n group. if group == 1 then Some n else None)

-- the name that a symbols body gives a group, counted from 1; no bytes where it gives none
abbrev pub group_name : Body → ℕ → List ℕ
group_name body group = unwrap_or (value_of nat_eq (offers_of nat_eq name_rules name_moves body) group tt) []

-- the name of a group, counted from 0, among names
abbrev pub name_at : List (List ℕ) → ℕ → List ℕ
name_at names group = unwrap_or (slice_get names group) []

-- there are few names, and the last of them has bytes
pub record AreCut (names : List (List ℕ)) : Type 0 where
  pub few : length names ≤ MOST_GROUPS
  pub ends : name_at names (length names - 1) ≡ [] → names ≡ []

-- names by group, from the first to the last that has bytes
pub record AreGroupNames (names : List (List ℕ)) (body : Body) : Type 0 where
  pub names_are : (group : ℕ) → group < MOST_GROUPS → name_at names group ≡ group_name body (group + 1)
  pub few : length names ≤ MOST_GROUPS
  pub ends : name_at names (length names - 1) ≡ [] → names ≡ []

-- the name that records by group hold; no bytes where they hold none
abbrev pub name_recorded : {S : Type 0} → IndexMap ℕ (Single (List ℕ)) S → ℕ → List ℕ
name_recorded records group = unwrap_or (cell_in single_form (get nat_eq records group) tt) []

-- ---- Under names, for clauses

abbrev pub moved_group : ℕ → ℕ → Option ℕ
moved_group n group = if group == 1 then Some n else None

abbrev pub name_offer : Mode → ℕ → List ℕ → Offer ℕ (Unit {0}) (List ℕ)
name_offer mode group text = plain_offer mode group (λ _. Some text)

abbrev pub named_offers : Mode → Option Field → List (Offer ℕ (Unit {0}) (List ℕ))
named_offers mode field = option_map_or (λ f. offered mode (indexed_group f.place.index) (set_text f.setting)) field []

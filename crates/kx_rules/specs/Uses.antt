-- What rules take of the names that are asked for.
use Rattle.std.specs.Prelude.{◌≡◌, ℕ, Bool, not, ◌==◌, ◌&&◌, ◌||◌, nat_eq, nat_le, List, [], ◌∷◌, ◌++◌, length, take, map, filter, filter_map, flat_map, option_map, option_to_list, position, slice_get, Option, None, Some, if◌then◌else◌}
use Rattle.std.specs.List.{enumerate_from, list_any, zip}
use Rattle.std.specs.Map.{keys_of}
use Rattle.std.specs.Str.{bytes_eq}
use Rattle.kx_rules.specs.Expansions.{index_in, is_joint}
use Rattle.kx_rules.specs.Mappings.{is_field, layout_place}
use Rattle.kx_rules.specs.Matches.{Groups}
use Rattle.kx_rules.specs.Names.{Names}
use Rattle.kx_rule_lines.specs.Pieces.{Piece}
use Rattle.kx_rules.specs.declared.columns.Column.{Column}
use Rattle.kx_rules.specs.declared.columns.Field.{Field}
use Rattle.kx_rules.specs.declared.columns.Field.TheVariants.{Model, Layout, Variant, Choice}
use Rattle.kx_rule_lines.specs.declared.scan.Kind.TheVariants.{Star, Group}
use Rattle.kx_rules.specs.declared.passed.Passed.{Passed}
use Rattle.kx_rules.specs.declared.uses.Use.{Use}
use Rattle.kx_rules.specs.declared.uses.Use.TheVariants.{Named, AllOptions, Grouped}

-- what a value for options takes: all, those of a group, or itself
abbrev pub options_of : Names → Groups → Piece → Option Use
options_of names groups value = elim value.kind [ Star ↦ Some AllOptions | Group ↦ option_map Grouped (position (bytes_eq value.text) (keys_of groups)) | _ ↦ option_map (Named Choice) (position (bytes_eq value.text) names.options) ]

abbrev pub use_of : Names → Groups → ℕ → Column → Piece → Option Use
use_of names groups place column value = elim column.field [ Model ↦ Some (Named Model 0) | Layout ↦ Some (Named Layout place) | Variant ↦ Some (Named Variant place) | Choice ↦ options_of names groups value ]

-- which of so many items an index means, or none
abbrev pub item_place : ℕ → Option ℕ → Option ℕ
item_place many None = if many == 1 then Some 0 else None
item_place many (Some place) = if many == 1 then None else Some place

abbrev pub without_sign : List ℕ → List ℕ
without_sign [] = []
without_sign (b ∷ bs) = if b == 40 || is_joint b then bs else b ∷ bs

-- the name that a letter and its index stand for
unfoldable pub name_at : Names → List ℕ → Option Use
name_at names [] = None
name_at names (letter ∷ bs) =
    if letter == 109 then Some (Named Model 0) else
    if letter == 108 then option_map (Named Layout) (item_place (length names.layouts) (index_in (take 3 bs))) else
    if letter == 118 then option_map (Named Variant) (item_place (length names.variants) (index_in (take 3 bs))) else None

-- the names after the signs % of a value, also of a faulty one
unfoldable pub written : Names → List ℕ → List Use
written names [] = []
written names (b ∷ bs) = (if b == 37 then option_to_list (name_at names (without_sign bs)) else []) ++ written names bs

-- a rule that applies takes the names that its values are for, and those that it writes
unfoldable pub uses_of : Names → Groups → List Column → List Piece → List Piece → List Use
uses_of names groups columns lefts rights =
    filter_map (λ (pair : Column × Piece). use_of names groups (layout_place columns) pair.0 pair.1) (zip columns lefts)
    ++ flat_map (λ value. written names value.text) rights

abbrev pub options_at : Groups → ℕ → List ℕ
options_at groups place = elim (slice_get groups place) [ None ↦ [] | Some group ↦ group.1.options ]

-- whether a use takes the item of a field at a place
abbrev pub takes : Groups → Field → ℕ → Use → Bool
takes groups field place (Named other at) = is_field field other && nat_eq place at
takes groups field place AllOptions = is_field field Choice
takes groups field place (Grouped at) = is_field field Choice && list_any (nat_eq place) (options_at groups at)

-- the items with bytes that nothing takes, each with its place
unfoldable pub left : Groups → List Use → Field → List (List ℕ) → List (ℕ × List ℕ)
left groups uses field items = filter (λ (e : ℕ × List ℕ). nat_le 1 (length e.1) && not (list_any (takes groups field e.0) uses)) (enumerate_from 0 items)

-- what is passed over
pub record IsLeft (names : Names) (groups : Groups) (uses : List Use) (passed : Passed) : Type 0 where
  pub model : passed.model ≡ nat_le 1 (length (left groups uses Model (names.model ∷ [])))
  pub layouts : passed.layouts.items ≡ map (λ (e : ℕ × List ℕ). e.0) (left groups uses Layout names.layouts)
  pub variants : passed.variants.items ≡ map (λ (e : ℕ × List ℕ). e.0) (left groups uses Variant names.variants)
  pub options : map (λ o. o.items) passed.options.items ≡ map (λ (e : ℕ × List ℕ). e.1) (left groups uses Choice names.options)

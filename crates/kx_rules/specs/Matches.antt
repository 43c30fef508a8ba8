-- Which rules are for the names that were asked for.
use Rattle.std.specs.Prelude.{ℕ, Bool, true, false, ◌&&◌, nat_eq, nat_le, List, [], ◌∷◌, ◌++◌, length, filter_map, get_or, take, map, position, is_some, unwrap_or, if◌then◌else◌}
use Rattle.std.specs.Map.{lookup}
use Rattle.std.specs.List.{list_all, list_any, zip}
use Rattle.std.specs.Str.{bytes_eq}
use Rattle.kx_rules.specs.Mappings.{Mapping, layout_place}
use Rattle.kx_rules.specs.Names.{Names, has}
use Rattle.kx_rule_lines.specs.Pieces.{Piece}
use Rattle.kx_rules.specs.declared.columns.Column.{Column}
use Rattle.kx_rules.specs.declared.columns.Field.TheVariants.{Model, Layout, Variant, Choice}
use Rattle.kx_rules.specs.declared.limits.TheConstants.{GREATEST_INDEX}
use Rattle.kx_rule_lines.specs.declared.scan.Kind.TheVariants.{Star, Group}

-- which of the names a group has; layouts and variants as far as there are indexes
pub record Members : Type 0 where
  pub model : Bool
  pub layouts : List Bool
  pub variants : List Bool
  -- by the options' places
  pub options : List ℕ

abbrev pub has_text : List Piece → List ℕ → Bool
has_text pieces word = list_any (λ piece. bytes_eq word piece.text) pieces

unfoldable pub members_of : Names → List Piece → Members
members_of names pieces = record {
  model = has_text pieces names.model;
  layouts = map (has_text pieces) (take GREATEST_INDEX names.layouts);
  variants = map (has_text pieces) (take GREATEST_INDEX names.variants);
  options = filter_map (λ piece. position (bytes_eq piece.text) names.options) pieces;
}

abbrev pub Groups : Type 0
Groups = List (List ℕ × Members)

-- the first group of a name counts
abbrev pub with_group : Groups → List ℕ → Members → Groups
with_group groups name members = if is_some (lookup (bytes_eq name) groups) then groups else groups ++ (name, members) ∷ []

abbrev pub nobody : Members
nobody = record { model = false; layouts = []; variants = []; options = [] }

-- no name is in a group that isn't there
abbrev pub group_of : Groups → List ℕ → Members
group_of groups name = unwrap_or (lookup (bytes_eq name) groups) nobody

abbrev pub is_member : ℕ → Column → Members → Bool
is_member place column members = elim column.field [ Model ↦ members.model | Layout ↦ get_or members.layouts place false | Variant ↦ get_or members.variants place false | Choice ↦ nat_le 1 (length members.options) ]

-- what isn't there has no bytes, and so isn't named by a word
abbrev pub is_named : Names → ℕ → Column → List ℕ → Bool
is_named names place column word = elim column.field [ Model ↦ bytes_eq word names.model | Layout ↦ bytes_eq word (get_or names.layouts place []) | Variant ↦ bytes_eq word (get_or names.variants place []) | Choice ↦ has names.options word ]

abbrev pub fits : Names → Groups → ℕ → Column → Piece → Bool
fits names groups place column value = elim value.kind [ Star ↦ true | Group ↦ is_member place column (group_of groups value.text) | _ ↦ is_named names place column value.text ]

-- a rule has as many values as its mapping, and each fits
unfoldable pub applies : Names → Groups → Mapping → List Piece → List Piece → Bool
applies names groups mapping lefts rights =
    (nat_eq (length lefts) (length mapping.columns) && nat_eq (length rights) (length mapping.sections))
    && list_all (λ (pair : Column × Piece). fits names groups (layout_place mapping.columns) pair.0 pair.1) (zip mapping.columns lefts)

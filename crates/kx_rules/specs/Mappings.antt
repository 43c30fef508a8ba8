-- The lines that say what the rules below them are about.
use Rattle.std.specs.Prelude.{ℕ, Bool, true, false, ◌&&◌, nat_le, nat_lt, List, [], ◌∷◌, ◌++◌, length, drop, codes, Option, None, Some, unwrap_or, if◌then◌else◌}
use Rattle.std.specs.List.{list_all, list_any}
use Rattle.std.specs.Option.{option_map}
use Rattle.std.specs.Str.{bytes_eq}
use Rattle.kx_rules.specs.Expansions.{index_in}
use Rattle.kx_rules.specs.Names.{Names}
use Rattle.kx_rule_lines.specs.Pieces.{Piece, begins}
use Rattle.kx_rules.specs.declared.columns.Column.{Column}
use Rattle.kx_rules.specs.declared.columns.Field.{Field}
use Rattle.kx_rules.specs.declared.columns.Field.TheVariants.{Model, Layout, Variant, Choice}
use Rattle.kx_rules.specs.declared.columns.Section.{Section}
use Rattle.kx_rules.specs.declared.columns.Section.TheVariants.{Keycodes, Types, Compat, Symbols, Geometry}

-- what the values left and right of the rules' signs = are
pub record Mapping : Type 0 where
  pub columns : List Column
  pub sections : List Section

abbrev pub column : Field → Option ℕ → Column
column field place = record { field = field; place = place }

-- a word with an index or without
abbrev pub indexed_column : Field → List ℕ → Option Column
indexed_column field [] = Some (column field None)
indexed_column field (b ∷ bs) = option_map (λ place. column field (Some place)) (index_in (b ∷ bs))

unfoldable pub column_of : List ℕ → Option Column
column_of word =
    if bytes_eq word (codes "model") then Some (column Model None) else
    if bytes_eq word (codes "option") then Some (column Choice None) else
    if begins (codes "layout") word then indexed_column Layout (drop 6 word) else
    if begins (codes "variant") word then indexed_column Variant (drop 7 word) else None

unfoldable pub section_of : List ℕ → Option Section
section_of word =
    if bytes_eq word (codes "keycodes") then Some Keycodes else
    if bytes_eq word (codes "types") then Some Types else
    if bytes_eq word (codes "compat") then Some Compat else
    if bytes_eq word (codes "symbols") then Some Symbols else
    if bytes_eq word (codes "geometry") then Some Geometry else None

abbrev pub is_field : Field → Field → Bool
is_field Model Model = true
is_field Layout Layout = true
is_field Variant Variant = true
is_field Choice Choice = true
is_field _ _ = false

abbrev pub is_section : Section → Section → Bool
is_section Keycodes Keycodes = true
is_section Types Types = true
is_section Compat Compat = true
is_section Symbols Symbols = true
is_section Geometry Geometry = true
is_section _ _ = false

module _ {A : Type 0} (same : A → A → Bool) (read : List ℕ → Option A) where
  -- `known` and what each word says; none if a word says nothing, or what was said before
  abbrev pub each_new : List A → List Piece → Option (List A)
  each_new known [] = Some known
  each_new known (word ∷ words) = elim (read word.text) [ None ↦ None | Some x ↦ (if list_any (same x) known then None else each_new (known ++ x ∷ []) words) ]

-- whether a column without an index or with one is about this many items: one without, several with
abbrev pub counts : ℕ → Option ℕ → Bool
counts many None = nat_le many 1
counts many (Some place) = nat_le 2 many && nat_lt place many

abbrev pub column_counts : Names → Column → Bool
column_counts names column = elim column.field [ Layout ↦ counts (length names.layouts) column.place | Variant ↦ counts (length names.variants) column.place | Model ↦ true | Choice ↦ true ]

abbrev pub chosen : Names → Option (List Column) → Option (List Section) → Option Mapping
chosen names (Some columns) (Some (section ∷ sections)) = if list_all (column_counts names) columns then Some (record { columns = columns; sections = section ∷ sections }) else None
chosen names _ _ = None

abbrev pub same_column : Column → Column → Bool
same_column column other = is_field column.field other.field

-- none if the rules below the line are passed over
unfoldable pub mapping_of : Names → List Piece → List Piece → Option Mapping
mapping_of names lefts rights = chosen names (each_new same_column column_of [] lefts) (each_new is_section section_of [] rights)

-- the place of the layout, and of the variant too, whatever its own index
abbrev pub layout_place : List Column → ℕ
layout_place [] = 0
layout_place (column ∷ columns) = elim column.field [ Layout ↦ unwrap_or column.place 0 | Model ↦ layout_place columns | Variant ↦ layout_place columns | Choice ↦ layout_place columns ]

abbrev pub has_choice : List Column → Bool
has_choice = list_any (λ column. is_field Choice column.field)

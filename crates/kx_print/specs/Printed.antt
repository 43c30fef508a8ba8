-- The printed text of tables: a keymap text that says all that they hold, section by section.
use Rattle.std.specs.Prelude.{ℕ, ◌+◌, ◌==◌, List, [], ◌∷◌, ◌++◌, codes, decimal, length, map, slice_get, if◌then◌else◌}
use Rattle.std.specs.List.{flat_map}
use Rattle.std.specs.Option.{option_map_or}
use Rattle.ks_core.specs.Names.{name_of_keysym}
use Rattle.ks_core.specs.Table.{with_names}
use Rattle.kx_mods.specs.Mods.{mask, mod_names}
use Rattle.kx_tables.specs.Content.{Content, group_name, indicator_name, key_name, levels_of, part, type_name}
use Rattle.kx_tables.specs.declared.rows.CellRow.{CellRow}
use Rattle.kx_tables.specs.declared.rows.EntryRow.{EntryRow}
use Rattle.kx_tables.specs.declared.rows.GroupNameRow.{GroupNameRow}
use Rattle.kx_tables.specs.declared.rows.GroupRow.{GroupRow}
use Rattle.kx_tables.specs.declared.rows.IndicatorRow.{IndicatorRow}
use Rattle.kx_tables.specs.declared.rows.KeyRow.{KeyRow}
use Rattle.kx_tables.specs.declared.rows.Range.{Range}
use Rattle.kx_tables.specs.declared.rows.Range.TheVariants.{Wrap, Clamp, Redirect}
use Rattle.kx_tables.specs.declared.rows.TypeRow.{TypeRow}
use Rattle.kx_print.specs.ActionText.{action_text}
use Rattle.kx_print.specs.Masks.{chosen, mods_text, states_text}
use Rattle.kx_print.specs.Phrases.{block, elements, field_at, hexadecimal, joined, numbered, quoted, setting, setting_at}

-- ---- keycodes

-- the name of a key as texts name keys
abbrev pub bracketed : List ℕ → List ℕ
bracketed name = codes "<" ++ (name ++ codes ">")

unfoldable pub keycode_line : Content → KeyRow → List ℕ
keycode_line c k = setting (bracketed (key_name c k)) (decimal k.code)

-- ---- types

-- the modifiers that an entry preserves, where there are any
unfoldable pub preserve_line : EntryRow → List ℕ
preserve_line e = if mask e.preserve == 0 then [] else setting_at (codes "preserve") (mods_text e.mods) (mods_text e.preserve)

-- the level of an entry, and what it preserves
unfoldable pub entry_lines : EntryRow → List ℕ
entry_lines e = setting_at (codes "map") (mods_text e.mods) (decimal e.level) ++ preserve_line e

abbrev pub entries_of : Content → TypeRow → List EntryRow
entries_of c t = part c.entries t.first_entry t.entries

-- the name of the last level tells how many there are
unfoldable pub levels_line : ℕ → List ℕ
levels_line levels = setting_at (codes "level_name") (decimal levels) (quoted [])

unfoldable pub type_block : Content → TypeRow → List ℕ
type_block c t =
    block (codes "type " ++ quoted (type_name c t))
    (setting (codes "modifiers") (mods_text t.mods) ++ (flat_map entry_lines (entries_of c t) ++ levels_line t.levels))

-- ---- indicators

-- what lights an indicator; bit g of its groups is group g, counted from 0
unfoldable pub indicator_map_lines : IndicatorRow → List ℕ
indicator_map_lines d =
    setting (codes "whichModState") (states_text d.mod_states)
    ++ (setting (codes "modifiers") (mods_text d.mods)
    ++ (setting (codes "whichGroupState") (states_text d.group_states) ++ setting (codes "groups") (hexadecimal d.groups)))

unfoldable pub indicator_block : Content → IndicatorRow → List ℕ
indicator_block c d = block (codes "indicator " ++ quoted (indicator_name c d)) (indicator_map_lines d)

-- ---- names of groups

-- the name of the n-th group, counted from 1; a group without a name has no line
unfoldable pub name_line : ℕ → List ℕ → List ℕ
name_line n name = if length name == 0 then [] else setting_at (codes "name") (decimal n) (quoted name)

abbrev pub group_name_line : Content → ℕ → GroupNameRow → List ℕ
group_name_line c n g = name_line n (group_name c g)

-- ---- keys

-- a keysym by its name among the built-in names
abbrev pub keysym_text : ℕ → List ℕ
keysym_text keysym = name_of_keysym (with_names []) keysym

-- the keysyms of a level: none, one, or several in braces
abbrev pub symbols_text : List ℕ → List ℕ
symbols_text [] = codes "NoSymbol"
symbols_text (keysym ∷ []) = keysym_text keysym
symbols_text keysyms = codes "{ " ++ (joined (codes ", ") (map keysym_text keysyms) ++ codes " }")

unfoldable pub cell_symbols : Content → CellRow → List ℕ
cell_symbols c d = symbols_text (part c.keysyms d.first_keysym d.keysyms)

unfoldable pub cell_action : CellRow → List ℕ
cell_action d = action_text d.action

abbrev pub cells_of : Content → GroupRow → List CellRow
cells_of c g = part c.cells g.first_cell (levels_of c g)

abbrev pub type_of : Content → GroupRow → List ℕ
type_of c g = option_map_or (type_name c) (slice_get c.types g.key_type) []

-- the fields of the n-th group of a key, counted from 1
unfoldable pub group_fields : Content → ℕ → GroupRow → List (List ℕ)
group_fields c n g =
    field_at (codes "type") (decimal n) (quoted (type_of c g))
    ∷ field_at (codes "symbols") (decimal n) (elements (map (cell_symbols c) (cells_of c g)))
    ∷ field_at (codes "actions") (decimal n) (elements (map cell_action (cells_of c g)))
    ∷ []

-- what becomes of a group that the key doesn't have; groups are counted from 1
abbrev pub range_fields : Range → List (List ℕ)
range_fields Wrap = []
range_fields Clamp = codes "groupsClamp" ∷ []
range_fields (Redirect group) = (codes "groupsRedirect= " ++ decimal (group + 1)) ∷ []

abbrev pub groups_of : Content → KeyRow → List GroupRow
groups_of c k = part c.groups k.first_group k.groups

abbrev pub fields_of : Content → KeyRow → List (List ℕ)
fields_of c k = numbered (group_fields c) 1 (groups_of c k) ++ range_fields k.range

abbrev pub on_new_line : List ℕ → List ℕ
on_new_line field = codes "\n" ++ field

-- each field stands on a line, with a comma after all but the last
unfoldable pub key_block : Content → KeyRow → List ℕ
key_block c k =
    codes "key " ++ (bracketed (key_name c k) ++ (codes " {" ++ (joined (codes ",") (map on_new_line (fields_of c k)) ++ codes "\n};\n")))

-- ---- modifier maps

abbrev pub modifier_map_line : List ℕ → List ℕ → List ℕ
modifier_map_line name modifier = codes "modifier_map " ++ (modifier ++ (codes " { " ++ (bracketed name ++ codes " };\n")))

-- a line for each modifier of a key, in the order of their bits
unfoldable pub modifier_map_lines : Content → KeyRow → List ℕ
modifier_map_lines c k = flat_map (modifier_map_line (key_name c k)) (chosen (mask k.modmap) mod_names)

-- ---- sections

unfoldable pub keycodes_section : Content → List ℕ
keycodes_section c = block (codes "xkb_keycodes") (flat_map (keycode_line c) c.keys)

unfoldable pub types_section : Content → List ℕ
types_section c = block (codes "xkb_types") (flat_map (type_block c) c.types)

-- there is none without indicators
unfoldable pub compat_section : Content → List ℕ
compat_section c =
    if length c.indicators == 0 then [] else block (codes "xkb_compat") (flat_map (indicator_block c) c.indicators)

unfoldable pub symbols_section : Content → List ℕ
symbols_section c =
    block (codes "xkb_symbols")
    (numbered (group_name_line c) 1 c.group_names ++ (flat_map (key_block c) c.keys ++ flat_map (modifier_map_lines c) c.keys))

unfoldable pub printed : Content → List ℕ
printed c =
    block (codes "xkb_keymap") (keycodes_section c ++ (types_section c ++ (compat_section c ++ symbols_section c)))

-- The text of a keymap that its clients read: all that the printed text of its tables says, and what their image leaves out.
use Rattle.std.specs.Prelude.{ℕ, ◌==◌, Bool, List, [], ◌∷◌, ◌++◌, codes, decimal, length, map, if◌then◌else◌}
use Rattle.std.specs.List.{flat_map, list_any}
use Rattle.std.specs.Str.{bytes_eq}
use Rattle.kx_builder.specs.Resolved.{ResolvedType}
use Rattle.kx_clients.specs.LeftOut.{LeftOut, repeats}
use Rattle.kx_clients.specs.declared.alias.Alias.{Alias}
use Rattle.kx_clients.specs.declared.virtual_modifier.VirtualModifier.{VirtualModifier}
use Rattle.kx_mods.specs.Mods.{mask}
use Rattle.kx_print.specs.Masks.{mods_text}
use Rattle.kx_print.specs.Phrases.{block, joined, numbered, quoted, setting}
use Rattle.kx_print.specs.Printed.{bracketed, entry_lines, fields_of, group_name_line, indicator_block, keycode_line, levels_line, modifier_map_lines, on_new_line}
use Rattle.kx_tables.specs.Content.{Content, key_name}
use Rattle.kx_tables.specs.declared.rows.KeyRow.{KeyRow}
use Rattle.kx_tables.specs.declared.rows.Range.{Range}
use Rattle.kx_tables.specs.declared.rows.Range.TheVariants.{Wrap}

-- ---- keycodes

-- the name of the n-th indicator, counted from 1, where it has one
unfoldable pub indicator_line : ℕ → List ℕ → List ℕ
indicator_line n name = if length name == 0 then [] else setting (codes "indicator " ++ decimal n) (quoted name)

unfoldable pub alias_line : Alias → List ℕ
alias_line a = setting (codes "alias " ++ bracketed a.name) (bracketed a.key)

unfoldable pub keycodes_text : Content → LeftOut → List ℕ
keycodes_text c left =
    block (codes "xkb_keycodes") (flat_map (keycode_line c) c.keys ++ (numbered indicator_line 1 left.indicators ++ flat_map alias_line left.aliases))

-- ---- types

-- a virtual modifier, with the real ones that it stands for
unfoldable pub modifier_text : VirtualModifier → List ℕ
modifier_text m = m.name ++ (if mask m.mods == 0 then [] else codes "= " ++ mods_text m.mods)

unfoldable pub modifiers_line : List VirtualModifier → List ℕ
modifiers_line ms = if length ms == 0 then [] else codes "virtual_modifiers " ++ (joined (codes ", ") (map modifier_text ms) ++ codes ";\n")

-- the type that is built in, which readers of the text may not have
abbrev pub built_in : List ℕ
built_in = codes "type \"ONE_LEVEL\" {\nmodifiers= none;\nlevel_name[1]= \"\";\n};\n"

abbrev pub declares_one_level : List ResolvedType → Bool
declares_one_level types = list_any (λ (t : ResolvedType). bytes_eq t.name (codes "ONE_LEVEL")) types

unfoldable pub declared_block : ResolvedType → List ℕ
declared_block t =
    block (codes "type " ++ quoted t.name)
    (setting (codes "modifiers") (mods_text t.mods) ++ (flat_map entry_lines t.entries ++ levels_line t.levels))

-- all types that the source declares: an X server takes no keymap that has fewer than its own
unfoldable pub types_text : LeftOut → List ℕ
types_text left =
    block (codes "xkb_types")
    (modifiers_line left.modifiers ++ ((if declares_one_level left.types then [] else built_in) ++ flat_map declared_block left.types))

-- ---- indicators

-- an X server takes no keymap without an interpretation; each key has its own actions, so that this one does nothing
abbrev pub interpretation : List ℕ
interpretation = codes "interpret Any+AnyOf(all) {\naction= NoAction();\n};\n"

unfoldable pub compat_text : Content → List ℕ
compat_text c = block (codes "xkb_compat") (interpretation ++ flat_map (indicator_block c) c.indicators)

-- ---- keys

abbrev pub repeat_word : Bool → List ℕ
repeat_word key_repeats = if key_repeats then codes "yes" else codes "no"

-- whether a key repeats is its first field
unfoldable pub repeat_field : Bool → List ℕ
repeat_field key_repeats = codes "repeat= " ++ repeat_word key_repeats

unfoldable pub key_text : Content → LeftOut → KeyRow → List ℕ
key_text c left k =
    codes "key "
    ++ (bracketed (key_name c k) ++ (codes " {" ++ (joined (codes ",") (map on_new_line (repeat_field (repeats left k.code) ∷ fields_of c k)) ++ codes "\n};\n")))

unfoldable pub symbols_text : Content → LeftOut → List ℕ
symbols_text c left =
    block (codes "xkb_symbols")
    (numbered (group_name_line c) 1 c.group_names ++ (flat_map (key_text c left) c.keys ++ flat_map (modifier_map_lines c) c.keys))

-- ---- Under names, for clauses

abbrev pub range_comma : Range → List ℕ
range_comma Wrap = []
range_comma _ = codes ","

-- the comma before the fields of a key's groups and range, where it has any
abbrev pub comma_before : KeyRow → List ℕ
comma_before k = if k.groups == 0 then range_comma k.range else codes ","

-- the block of a key that has this name and these fields
abbrev pub key_with : List ℕ → List (List ℕ) → List ℕ
key_with name fields = codes "key " ++ (bracketed name ++ (codes " {" ++ (joined (codes ",") (map on_new_line fields) ++ codes "\n};\n")))

-- ---- all

unfoldable pub client_printed : Content → LeftOut → List ℕ
client_printed c left =
    block (codes "xkb_keymap") (keycodes_text c left ++ (types_text left ++ (compat_text c ++ symbols_text c left)))

-- The tokens of printed lines, as kinds and bytes.
use Rattle.std.specs.Prelude.{ℕ, List, [], ◌∷◌, ◌++◌, ◌==◌, codes, decimal, if◌then◌else◌}
use Rattle.std.specs.List.{flat_map}
use Rattle.ks_core.specs.PrintedName.{printed_name}
use Rattle.kx_lex.specs.Keywords.{keyword_of}
use Rattle.kx_lex.specs.declared.token.TokenKind.TheVariants.{Word, Number, KeyName, Text, Mark}
use Rattle.kx_mods.specs.Mods.{mask, mod_names}
use Rattle.kx_mods.specs.declared.mods.Mods.{Mods}
use Rattle.kx_print.specs.Masks.{chosen}
use Rattle.roundtrip_text.specs.Slices.{Slice, slice}
use Rattle.kx_print.specs.Printed.{entries_of}
use Rattle.kx_tables.specs.Content.{Content, key_name, type_name}
use Rattle.kx_tables.specs.declared.rows.EntryRow.{EntryRow}
use Rattle.kx_tables.specs.declared.rows.KeyRow.{KeyRow}
use Rattle.kx_tables.specs.declared.rows.TypeRow.{TypeRow}

abbrev pub word : List ℕ → Slice
word w = slice (Word (keyword_of w)) w

abbrev pub mark : ℕ → Slice
mark b = slice (Mark b) (b ∷ [])

abbrev pub number : ℕ → Slice
number n = slice Number (decimal n)

abbrev pub key : List ℕ → Slice
key name = slice KeyName (60 ∷ name ++ 62 ∷ [])

abbrev pub text : List ℕ → Slice
text name = slice Text (34 ∷ printed_name name ++ 34 ∷ [])

-- words joined by +
abbrev pub terms : List (List ℕ) → List Slice
terms [] = []
terms (w ∷ ws) = word w ∷ flat_map (λ o. mark 43 ∷ word o ∷ []) ws

abbrev pub set_words : List (List ℕ) → ℕ → List (List ℕ)
set_words names bits = if bits == 0 then codes "none" ∷ [] else chosen bits names

abbrev pub mods_terms : Mods → List Slice
mods_terms mods = terms (set_words mod_names (mask mods))

abbrev pub keycode_slices : Content → KeyRow → List Slice
keycode_slices c k = key (key_name c k) ∷ mark 61 ∷ number k.code ∷ mark 59 ∷ []

abbrev pub setting_slices : List ℕ → List Slice → List Slice
setting_slices w value = word w ∷ mark 61 ∷ (value ++ mark 59 ∷ [])

abbrev pub setting_at_slices : List ℕ → List Slice → List Slice → List Slice
setting_at_slices w index value = word w ∷ mark 91 ∷ (index ++ (mark 93 ∷ mark 61 ∷ (value ++ mark 59 ∷ [])))

abbrev pub preserve_slices : EntryRow → List Slice
preserve_slices e = if mask e.preserve == 0 then [] else setting_at_slices (codes "preserve") (mods_terms e.mods) (mods_terms e.preserve)

abbrev pub entry_slices : EntryRow → List Slice
entry_slices e = setting_at_slices (codes "map") (mods_terms e.mods) (number e.level ∷ []) ++ preserve_slices e

abbrev pub levels_slices : ℕ → List Slice
levels_slices levels = setting_at_slices (codes "level_name") (number levels ∷ []) (text [] ∷ [])

-- ---- Blocks, types, keys

abbrev pub closed : List Slice
closed = mark 125 ∷ mark 59 ∷ []

abbrev pub block_slices : List Slice → List Slice → List Slice
block_slices head lines = head ++ (mark 123 ∷ (lines ++ closed))

abbrev pub type_slices : Content → TypeRow → List Slice
type_slices c t =
    block_slices (word (codes "type") ∷ text (type_name c t) ∷ [])
    (setting_slices (codes "modifiers") (mods_terms t.mods) ++ (flat_map entry_slices (entries_of c t) ++ levels_slices t.levels))

abbrev pub field_at_slices : List ℕ → List Slice → List Slice → List Slice
field_at_slices w index value = word w ∷ mark 91 ∷ (index ++ (mark 93 ∷ mark 61 ∷ value))

abbrev pub modifier_map_slices : List ℕ → List ℕ → List Slice
modifier_map_slices name modifier = word (codes "modifier_map") ∷ word modifier ∷ mark 123 ∷ key name ∷ mark 125 ∷ mark 59 ∷ []

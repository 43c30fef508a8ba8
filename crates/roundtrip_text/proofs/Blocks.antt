-- How printed blocks, fields and keys are read.
use Rattle.std.proofs.Common.{◌≡◌, ℕ, ◌<◌, ◌^◌, true, List, [], ◌∷◌, codes, refl}
use Rattle.std.specs.List.{list_all, flat_map}
use Rattle.kx_basics.specs.KeyNames.{is_key_byte}
use Rattle.kx_mods.specs.Mods.{mask}
use Rattle.kx_print.specs.Phrases.{block, field_at}
use Rattle.kx_print.specs.Printed.{type_block, entry_lines, entries_of, modifier_map_line}
use Rattle.roundtrip_text.specs.Slices.{Slice, Lexes, LexesBefore}
use Rattle.roundtrip_text.proofs.Lexing.{nothing_lexes, then_lexes, before_lexes, then_before, weaker, key_name_lexes}
use Rattle.roundtrip_text.proofs.Phrases.{marks_lex, printed_name_lexes, is_byte}
use Rattle.roundtrip_text.specs.Spelled.{mods_terms, entry_slices, block_slices, type_slices, field_at_slices, modifier_map_slices}
use Rattle.roundtrip_text.proofs.Lines.{is_text_word, one_word, before_before, mods_lex, setting_lexes, entry_lexes, levels_lex}
use Rattle.kx_tables.specs.Content.{Content, type_name}
use Rattle.kx_tables.specs.declared.rows.EntryRow.{EntryRow}
use Rattle.kx_tables.specs.declared.rows.TypeRow.{TypeRow}

-- what holds of each of a list
pub data Each {X : Type 0} (P : X → Type 0) : List X → Type 0 where
  no_more : Each P []
  and_more : {x : X} {xs : List X} → P x → Each P xs → Each P (x ∷ xs)

pub flat_lexes : {X : Type 0} {P : X → Type 0} (f : X → List ℕ) (g : X → List Slice) → ((x : X) → P x → Lexes (f x) (g x)) → (xs : List X) → Each P xs → Lexes (flat_map f xs) (flat_map g xs)
flat_lexes f g each [] no_more = nothing_lexes
flat_lexes f g each (x ∷ xs) (and_more h hs) = then_lexes (each x h) (flat_lexes f g each xs hs)

-- a head ends in a word or not
pub block_lexes : {head lines : List ℕ} {hs ls : List Slice} → LexesBefore head hs → Lexes lines ls → Lexes (block head lines) (block_slices hs ls)
block_lexes lh ll = before_lexes lh refl (then_lexes (marks_lex (codes " {\n") refl) (then_lexes ll (marks_lex (codes "};\n") refl)))

pub record EntryFits (e : EntryRow) : Type 0 where
  pub mods : mask e.mods < 2 ^ 8
  pub preserve : mask e.preserve < 2 ^ 8
  pub level : e.level < 2 ^ 64

pub record TypeFits (c : Content) (t : TypeRow) : Type 0 where
  pub name : list_all is_byte (type_name c t) ≡ true
  pub mods : mask t.mods < 2 ^ 8
  pub levels : t.levels < 2 ^ 64
  pub entries : Each EntryFits (entries_of c t)

pub type_lexes : (c : Content) (t : TypeRow) → TypeFits c t → Lexes (type_block c t) (type_slices c t)
unfolding type_block
type_lexes c t fits =
    block_lexes (then_before (before_lexes (one_word (codes "type") refl) refl (marks_lex (codes " ") refl)) (weaker (printed_name_lexes (type_name c t) fits.name)))
    (then_lexes (setting_lexes (codes "modifiers") _ (mods_terms t.mods) refl (mods_lex t.mods fits.mods))
    (then_lexes (flat_lexes entry_lines entry_slices (λ e f. entry_lexes e f.mods f.preserve f.level) (entries_of c t) fits.entries) (levels_lex t.levels fits.levels)))

-- ---- Fields

pub field_at_lexes : (w index value : List ℕ) (is ss : List Slice) → is_text_word w ≡ true → LexesBefore index is → LexesBefore value ss → LexesBefore (field_at w index value) (field_at_slices w is ss)
field_at_lexes w index value is ss h li lv = before_before (one_word w h) refl (then_before (marks_lex (codes "[") refl) (before_before li refl (then_before (marks_lex (codes "]= ") refl) lv)))

-- ---- Modifier maps

pub modifier_map_lexes : (name modifier : List ℕ) → list_all is_key_byte name ≡ true → is_text_word modifier ≡ true → Lexes (modifier_map_line name modifier) (modifier_map_slices name modifier)
modifier_map_lexes name modifier bytes h =
    before_lexes (one_word (codes "modifier_map") refl) refl (then_lexes (marks_lex (codes " ") refl) (before_lexes (one_word modifier h) refl (then_lexes (marks_lex (codes " { ") refl) (then_lexes (key_name_lexes name bytes) (marks_lex (codes " };\n") refl)))))

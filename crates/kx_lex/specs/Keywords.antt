-- The words that the grammar quotes, as the text format v1 of libxkbcommon has them.
use Rattle.std.specs.Prelude.{◌≡◌, ℕ, List, [], ◌∷◌, ◌==◌, ◌<◌, Option, codes, filter, get_or, length, map}
use Rattle.std.specs.Borrow.{Bor}
use Rattle.std.specs.Map.{lookup}
use Rattle.std.specs.Str.{str_eq_ignore_ascii_case}
use Rattle.kx_lex.specs.declared.keyword.Keyword.{Keyword}
use Rattle.kx_lex.specs.declared.keyword.Keyword.TheVariants as keywords

-- the keywords, as they are spelled in small letters
unfoldable pub spellings : List (List ℕ × Keyword)
spellings = (codes "alias", keywords.Alias) ∷ (codes "alphanumeric_keys", keywords.AlphanumericKeys)
    ∷ (codes "alternate", keywords.Alternate) ∷ (codes "alternate_group", keywords.AlternateGroup)
    ∷ (codes "augment", keywords.Augment) ∷ (codes "default", keywords.Default)
    ∷ (codes "function_keys", keywords.FunctionKeys) ∷ (codes "group", keywords.Group)
    ∷ (codes "hidden", keywords.Hidden) ∷ (codes "include", keywords.Include) ∷ (codes "indicator", keywords.Indicator)
    ∷ (codes "interpret", keywords.Interpret) ∷ (codes "key", keywords.Key) ∷ (codes "keypad_keys", keywords.KeypadKeys)
    ∷ (codes "modifier_keys", keywords.ModifierKeys) ∷ (codes "modifier_map", keywords.ModifierMap)
    ∷ (codes "override", keywords.Override) ∷ (codes "partial", keywords.Partial) ∷ (codes "replace", keywords.Replace)
    ∷ (codes "type", keywords.Type) ∷ (codes "virtual", keywords.Virtual)
    ∷ (codes "virtual_modifiers", keywords.VirtualModifiers) ∷ (codes "xkb_compat", keywords.XkbCompat)
    ∷ (codes "xkb_compat_map", keywords.XkbCompatMap) ∷ (codes "xkb_compatibility", keywords.XkbCompatibility)
    ∷ (codes "xkb_compatibility_map", keywords.XkbCompatibilityMap) ∷ (codes "xkb_geometry", keywords.XkbGeometry)
    ∷ (codes "xkb_keycodes", keywords.XkbKeycodes) ∷ (codes "xkb_keymap", keywords.XkbKeymap)
    ∷ (codes "xkb_symbols", keywords.XkbSymbols) ∷ (codes "xkb_types", keywords.XkbTypes) ∷ []

-- that which a word spells, in capital letters or small
abbrev pub keyword_of : List ℕ → Option Keyword
keyword_of word = lookup (str_eq_ignore_ascii_case word) spellings

-- ---- Under a name, for clauses and proofs

abbrev pub Spelling : Type 0
Spelling = List ℕ × Keyword

-- ---- The table in which they are looked up

-- the first of some that a word spells
abbrev pub spelled_in : List ℕ → List Spelling → Option Keyword
spelled_in word ss = lookup (str_eq_ignore_ascii_case word) ss

abbrev pub of_length : ℕ → List Spelling
of_length n = filter (λ s. length s.0 == n) spellings

abbrev pub Row : Type 0
Row = Bor (List ℕ) × Keyword

abbrev pub rows_of : List Row → List Spelling
rows_of rows = map {A = Row} {B = Spelling} (λ r. (r.0.now, r.1)) rows

-- those of each length below 22
pub record IsByLength (tables : List (Bor (List Row))) : Type 0 where
  pub long : length tables ≡ 22
  pub each : (n : ℕ) (d : Bor (List Row)) → n < 22 → rows_of ((get_or tables n d).now) ≡ of_length n

-- A record's place in the bytes, and its row.
use Rattle.std.proofs.Common.{ℕ, List, ◌≡◌, ◌+◌, ◌*◌, ◌<◌, ◌≤◌, Some, length, slice_get, drop, arith, ap, sym, ◌∙◌, length-take, length-drop}
use Rattle.kx_tables.specs.Content.{part, counts_of}
use Rattle.kx_tables.specs.declared.tables.Counts.{Counts}
use Rattle.kx_image.specs.Cut.{rows_at}
use Rattle.kx_image.specs.Image.{content_in}
use Rattle.kx_image.specs.Records.{type_of, entry_of, key_of, group_of, cell_of, keysym_of, indicator_of, group_name_of}
use Rattle.kx_image.specs.Shape.{header_of, header_size, group_count, called_for, entries_start, keys_start, groups_start, cells_start, keysyms_start, indicators_start, group_names_start, names_start}
use Rattle.kx_image.proofs.Slicing.{length-rows_at, rows_at-get}

pub in_rows : {X : Type 0} (of : List ℕ → X) (size n start : ℕ) (s : List ℕ) (rows : List X) (i : ℕ) → rows ≡ rows_at of size n start s → i < length rows → i < n
in_rows of size n start s rows i are lt = omega (arith, ap length are, length-rows_at of size n start s)

pub row_there : {X : Type 0} (of : List ℕ → X) (size n start : ℕ) (s : List ℕ) (rows : List X) (i place : ℕ) (slice : List ℕ) (row : X) → rows ≡ rows_at of size n start s → i < length rows → place ≡ start + size * i → slice ≡ part s place size → row ≡ of slice → slice_get rows i ≡ Some row
row_there of size n start s rows i place slice row are lt place_is slice_is row_is =
    ap (λ r. slice_get r i) are ∙ rows_at-get of size n start s i (in_rows of size n start s rows i are lt)
    ∙ sym (ap Some (row_is ∙ ap of (slice_is ∙ ap (λ (p : ℕ). part s p size) place_is)))

pub length-part : (s : List ℕ) (start n : ℕ) → start + n ≤ length s → length (part s start n) ≡ n
length-part s start n within = omega (arith, length-take n (drop start s), length-drop start s)

same_counts : (a b c d e f g h i a' b' c' d' e' f' g' h' i' : ℕ) → a ≡ a' → b ≡ b' → c ≡ c' → d ≡ d' → e ≡ e' → f ≡ f' → g ≡ g' → h ≡ h' → i ≡ i'
    → ◌≡◌ {A = Counts} (record { types = a; entries = b; keys = c; groups = d; cells = e; keysyms = f; indicators = g; group_names = h; names = i }) (record { types = a'; entries = b'; keys = c'; groups = d'; cells = e'; keysyms = f'; indicators = g'; group_names = h'; names = i' })
same_counts a b c d e f g h i a' b' c' d' e' f' g' h' i' p q r s t u v w x = cc

pub counts_told : (s : List ℕ) → length s ≡ called_for s → ◌≡◌ {A = Counts} (record {
  types = (header_of s).types;
  entries = (header_of s).entries;
  keys = (header_of s).keys;
  groups = group_count (header_of s) s;
  cells = (header_of s).cells;
  keysyms = (header_of s).keysyms;
  indicators = (header_of s).indicators;
  group_names = (header_of s).group_names;
  names = (header_of s).names;
}) (counts_of (content_in s))
counts_told s end =
    let h = header_of s in
    let groups = group_count h s in
    same_counts _ _ _ _ _ _ _ _ _ _ _ _ _ _ _ _ _ _
    (sym (length-rows_at type_of 16 h.types (header_size h.version) s))
    (sym (length-rows_at entry_of 4 h.entries (entries_start h) s))
    (sym (length-rows_at key_of 16 h.keys (keys_start h) s))
    (sym (length-rows_at group_of 8 groups (groups_start h) s))
    (sym (length-rows_at cell_of 12 h.cells (cells_start h groups) s))
    (sym (length-rows_at keysym_of 4 h.keysyms (keysyms_start h groups) s))
    (sym (length-rows_at indicator_of 16 h.indicators (indicators_start h groups) s))
    (sym (length-rows_at group_name_of 8 h.group_names (group_names_start h groups) s))
    (sym (length-part s (names_start h groups) h.names (omega (arith, end))))

-- The tables that hold what is valid are sound.
use Rattle.std.proofs.Common.{ℕ, zero, suc, ◌+◌, ◌-◌, ◌<◌, ◌≤◌, ◌≡◌, ◌^◌, All, List, [], ◌∷◌, ◌++◌, Option, None, Some, length, max, take, slice_get, sum_by, refl, sym, ap, subst, ◌∙◌, arith, inl, inr}
use Rattle.std.proofs.lemmas.Bool.{cases_lt}
use Rattle.std.proofs.lemmas.List.{length-append}
use Rattle.std.proofs.lemmas.List.Elements.{All-append, All-weaker}
use Rattle.std.proofs.lemmas.Option.{none-some, slice_get_within}
use Rattle.std.specs.Option.{IsSomeAnd, option_map_or}
use Rattle.kx_basics.proofs.KeyBytes.{key_byte_small}
use Rattle.kx_builder.proofs.Agreeing.{All_at, get_within}
use Rattle.kx_builder.proofs.Counting.{each_row, row_from, rows_take, sum_before, sum_of_rows}
use Rattle.kx_builder.proofs.Placing.{element_at, get_behind, row_at, rows_length}
use Rattle.kx_builder.proofs.Seeing.{key_name_at, type_name_at}
use Rattle.kx_builder.specs.Valid.{CellIsValid, EntryIsValid, GroupIsValid, IsValid, KeyIsValid, Rising, TypeIsValid, types_met}
use Rattle.kx_builder.specs.WithinLimits.{CellIsWithinLimits, GroupIsWithinLimits, IsWithinLimits, KeyIsWithinLimits, TypeIsWithinLimits}
use Rattle.kx_builder.proofs.Room.{All_flat, cell_count, few_entries, few_names, keysym_count}
use Rattle.kx_builder.specs.Placed.{all_cells, all_entries, all_groups, all_keysyms, cell_row, content_of_resolved, group_row, key_row, names_of_keys, names_of_types, rows_behind, rows_of, type_row}
use Rattle.kx_builder.specs.Resolved.{Resolved, ResolvedCell, ResolvedEntry, ResolvedGroup, ResolvedKey, ResolvedType}
use Rattle.kx_tables.specs.Content.{Content, key_name, key_names, levels_of, type_name, type_names, types_used}
use Rattle.kx_basics.specs.KeyNames.{IsKeyByte}
use Rattle.kx_basics.specs.Keysyms.{IsKeysym}
use Rattle.kx_tables.specs.Sound.{CellHolds, CountsHold, EachRow, EntriesHold, GroupHolds, IsNewName, KeyHolds, NameByteHolds, Sound, TypeHolds}
use Rattle.kx_tables.specs.declared.rows.CellRow.{CellRow}
use Rattle.kx_tables.specs.declared.rows.KeyRow.{KeyRow}
use Rattle.kx_tables.specs.declared.rows.TypeRow.{TypeRow}

-- no condition on a thing
abbrev pub any : {X : Type 0} → X → Type 0
any x = Unit {0}

pub all_any : {X : Type 0} (xs : List X) → All any xs
all_any xs = λ k d within. tt

-- types that groups have met, by rows
met_from : (before after : List ResolvedGroup) → types_used (rows_behind group_row before after) ≡ types_met after
met_from before [] = refl
met_from before (g ∷ after) = ap (max (g.key_type + 1)) (met_from (before ++ g ∷ []) after)

met_before : (gs : List ResolvedGroup) (i : ℕ) → types_used (take i (rows_of group_row gs)) ≡ types_met (take i gs)
met_before gs i = ap types_used (rows_take group_row gs i) ∙ met_from [] (take i gs)

-- codes that rise are at least as high as their places
code_above : (ks : List ResolvedKey) → Rising (λ (k : ResolvedKey). k.code) ks → (i : ℕ) (k : ResolvedKey) → slice_get ks i ≡ Some k → i ≤ k.code
code_above ks rise zero k at = omega arith
code_above ks rise (suc i) k at =
    let within : suc i < length ks = slice_get_within ks (suc i) k at in
    let before = get_within ks i (omega (arith, within)) in
    omega (arith, code_above ks rise i before.0 before.1, rise (suc i) i k before.0 (omega arith) at before.1)

few_keys : (ks : List ResolvedKey) → Rising (λ (k : ResolvedKey). k.code) ks → All (λ (k : ResolvedKey). k.code ≤ 4095) ks → length ks ≤ 4096
few_keys ks rise each =
    elim (cases_lt 4096 (length ks)) [
      | inl many ↦ absurd (let last = get_within ks 4096 many in omega (arith, code_above ks rise 4096 last.0 last.1, All_at (λ (k : ResolvedKey). k.code ≤ 4095) ks 4096 last.0 each last.1))
      | inr few ↦ few
    ]

-- a group that is whole has as many cells as its type has levels, in the tables too
levels_in : (types : List ResolvedType) (g : ResolvedGroup) (o : Option ResolvedType) → slice_get types g.key_type ≡ o → IsSomeAnd o (λ t. length g.cells ≡ t.levels) → option_map_or (λ (t : TypeRow). t.levels) (slice_get (rows_of type_row types) g.key_type) 0 ≡ length g.cells
levels_in types g None e has = absurd has
levels_in types g (Some t) e has =
    ap (λ o. option_map_or (λ (u : TypeRow). u.levels) o 0) (row_at type_row types g.key_type t e) ∙ sym has

type_exists : (types : List ResolvedType) (g : ResolvedGroup) (o : Option ResolvedType) → slice_get types g.key_type ≡ o → IsSomeAnd o (λ t. length g.cells ≡ t.levels) → g.key_type < length types
type_exists types g None e has = absurd has
type_exists types g (Some t) e has = slice_get_within types g.key_type t e

cells_few : (types : List ResolvedType) (g : ResolvedGroup) (o : Option ResolvedType) → All TypeIsValid types → slice_get types g.key_type ≡ o → IsSomeAnd o (λ t. length g.cells ≡ t.levels) → length g.cells ≤ 64
cells_few types g None each e has = absurd has
cells_few types g (Some t) each e has = let valid : TypeIsValid t = All_at TypeIsValid types g.key_type t each e in omega (arith, has, valid.levels)

module _ (r : Resolved) (valid : IsValid r) where
  groups_valid : All (GroupIsValid r.types) (all_groups r.keys)
  groups_valid = All_flat (λ (k : ResolvedKey). k.groups) (GroupIsValid r.types) r.keys (All-weaker (KeyIsValid r.types) (λ (k : ResolvedKey). All (GroupIsValid r.types) k.groups) (λ k holds. holds.each_group) r.keys valid.each_key)

  cells_valid : All CellIsValid (all_cells (all_groups r.keys))
  cells_valid = All_flat (λ (g : ResolvedGroup). g.cells) CellIsValid (all_groups r.keys) (All-weaker (GroupIsValid r.types) (λ (g : ResolvedGroup). All CellIsValid g.cells) (λ g holds. holds.each_cell) (all_groups r.keys) groups_valid)

  keysyms_valid : All IsKeysym (all_keysyms (all_cells (all_groups r.keys)))
  keysyms_valid = All_flat (λ (d : ResolvedCell). d.syms) IsKeysym (all_cells (all_groups r.keys)) (All-weaker CellIsValid (λ (d : ResolvedCell). All IsKeysym d.syms) (λ d holds. holds.each_keysym) (all_cells (all_groups r.keys)) cells_valid)

  type_bytes : All (λ b. b < 2 ^ 8) (names_of_types r.types)
  type_bytes = All_flat (λ (t : ResolvedType). t.name) (λ b. b < 2 ^ 8) r.types (All-weaker TypeIsValid (λ (t : ResolvedType). All (λ b. b < 2 ^ 8) t.name) (λ t holds. holds.each_byte) r.types valid.each_type)

  key_bytes : All IsKeyByte (names_of_keys r.keys)
  key_bytes = All_flat (λ (k : ResolvedKey). k.name) IsKeyByte r.keys (All-weaker (KeyIsValid r.types) (λ (k : ResolvedKey). All IsKeyByte k.name) (λ k holds. holds.each_byte) r.keys valid.each_key)

  -- ---- Counts

  keys_few : length r.keys ≤ 4096
  keys_few = few_keys r.keys valid.codes_rise (All-weaker (KeyIsValid r.types) (λ (k : ResolvedKey). k.code ≤ 4095) (λ k holds. holds.code_fits) r.keys valid.each_key)

  pub valid_is_small : IsWithinLimits r
  valid_is_small = record {
    few_types = valid.types_fit;
    small_types = All-weaker TypeIsValid TypeIsWithinLimits (λ t holds. record { few_entries = holds.entries_fit; short_name = holds.name_fits }) r.types valid.each_type;
    few_keys = keys_few;
    small_keys = All-weaker (KeyIsValid r.types) KeyIsWithinLimits (λ k holds. record {
      short_name = holds.name_fits;
      few_groups = holds.few;
      small_groups = All-weaker (GroupIsValid r.types) GroupIsWithinLimits (λ g group. record {
        few_cells = cells_few r.types g (slice_get r.types g.key_type) valid.each_type refl group.whole;
        small_cells = All-weaker CellIsValid CellIsWithinLimits (λ d cell. cell.few) g.cells group.each_cell;
      }) k.groups holds.each_group;
    }) r.keys valid.each_key;
  }

  entry_sum : (i : ℕ) → sum_by (λ (t : TypeRow). t.entries) (take i (rows_of type_row r.types)) ≡ length (all_entries (take i r.types))
  entry_sum i = sum_before type_row (λ (t : ResolvedType). t.entries) (λ (t : TypeRow). t.entries) any (λ before t h. refl) r.types i (all_any r.types)

  type_name_sum : (i : ℕ) → sum_by (λ (t : TypeRow). t.name_length) (take i (rows_of type_row r.types)) ≡ length (names_of_types (take i r.types))
  type_name_sum i = sum_before type_row (λ (t : ResolvedType). t.name) (λ (t : TypeRow). t.name_length) any (λ before t h. refl) r.types i (all_any r.types)

  type_names_are : type_names (content_of_resolved r) ≡ length (names_of_types r.types)
  type_names_are = sum_of_rows type_row (λ (t : ResolvedType). t.name) (λ (t : TypeRow). t.name_length) any (λ before t h. refl) r.types (all_any r.types)

  key_name_sum : (i : ℕ) → sum_by (λ (k : KeyRow). k.name_length) (take i (rows_of (key_row r.types) r.keys)) ≡ length (names_of_keys (take i r.keys))
  key_name_sum i = sum_before (key_row r.types) (λ (k : ResolvedKey). k.name) (λ (k : KeyRow). k.name_length) any (λ before k h. refl) r.keys i (all_any r.keys)

  key_names_are : key_names (content_of_resolved r) ≡ length (names_of_keys r.keys)
  key_names_are = sum_of_rows (key_row r.types) (λ (k : ResolvedKey). k.name) (λ (k : KeyRow). k.name_length) any (λ before k h. refl) r.keys (all_any r.keys)

  group_sum : (i : ℕ) → sum_by (λ (k : KeyRow). k.groups) (take i (rows_of (key_row r.types) r.keys)) ≡ length (all_groups (take i r.keys))
  group_sum i = sum_before (key_row r.types) (λ (k : ResolvedKey). k.groups) (λ (k : KeyRow). k.groups) any (λ before k h. refl) r.keys i (all_any r.keys)

  cell_sum : (i : ℕ) → sum_by (levels_of (content_of_resolved r)) (take i (rows_of group_row (all_groups r.keys))) ≡ length (all_cells (take i (all_groups r.keys)))
  cell_sum i = sum_before group_row (λ (g : ResolvedGroup). g.cells) (levels_of (content_of_resolved r)) (GroupIsValid r.types) (λ before g holds. levels_in r.types g (slice_get r.types g.key_type) refl holds.whole) (all_groups r.keys) i groups_valid

  keysym_sum : (i : ℕ) → sum_by (λ (d : CellRow). d.keysyms) (take i (rows_of cell_row (all_cells (all_groups r.keys)))) ≡ length (all_keysyms (take i (all_cells (all_groups r.keys))))
  keysym_sum i = sum_before cell_row (λ (d : ResolvedCell). d.syms) (λ (d : CellRow). d.keysyms) any (λ before d h. refl) (all_cells (all_groups r.keys)) i (all_any (all_cells (all_groups r.keys)))

  counts_hold : CountsHold (content_of_resolved r)
  counts_hold = record {
    types = omega (arith, valid.types_fit, rows_length type_row r.types);
    entries = sym (sum_of_rows type_row (λ (t : ResolvedType). t.entries) (λ (t : TypeRow). t.entries) any (λ before t h. refl) r.types (all_any r.types));
    entries_fit = few_entries r valid_is_small;
    keys = omega (arith, keys_few, rows_length (key_row r.types) r.keys);
    groups = rows_length group_row (all_groups r.keys) ∙ sym (sum_of_rows (key_row r.types) (λ (k : ResolvedKey). k.groups) (λ (k : KeyRow). k.groups) any (λ before k h. refl) r.keys (all_any r.keys));
    cells = rows_length cell_row (all_cells (all_groups r.keys)) ∙ sym (sum_of_rows group_row (λ (g : ResolvedGroup). g.cells) (levels_of (content_of_resolved r)) (GroupIsValid r.types) (λ before g holds. levels_in r.types g (slice_get r.types g.key_type) refl holds.whole) (all_groups r.keys) groups_valid);
    cells_fit = cell_count r valid_is_small;
    keysyms = sym (sum_of_rows cell_row (λ (d : ResolvedCell). d.syms) (λ (d : CellRow). d.keysyms) any (λ before d h. refl) (all_cells (all_groups r.keys)) (all_any (all_cells (all_groups r.keys))));
    keysyms_fit = keysym_count r valid_is_small;
    names = omega (arith, length-append (names_of_types r.types) (names_of_keys r.keys), type_names_are, key_names_are);
    names_fit = few_names r valid_is_small;
  }

  -- ---- Types and entries

  type_is_new : (i : ℕ) (t : ResolvedType) → slice_get r.types i ≡ Some t → IsNewName (rows_of type_row r.types) (type_name (content_of_resolved r)) i (type_name (content_of_resolved r) (type_row (take i r.types) t))
  type_is_new i t at = λ j row below row_at same.
      let from = row_from type_row r.types j row row_at in
      valid.types_apart i j t from.0 below at from.1
      (sym (type_name_at r j from.0 from.1) ∙ ap (type_name (content_of_resolved r)) from.2 ∙ same ∙ type_name_at r i t at)

  type_holds : (i : ℕ) (t : ResolvedType) → slice_get r.types i ≡ Some t → TypeHolds (content_of_resolved r) i (type_row (take i r.types) t)
  type_holds i t at =
      let holds : TypeIsValid t = All_at TypeIsValid r.types i t valid.each_type at in
      record {
        mods = holds.mods;
        some_level = holds.some_level;
        levels = holds.levels;
        entries = holds.entries_fit;
        name_length = holds.name_fits;
        first_entry = sym (entry_sum i);
        first_name = sym (type_name_sum i);
        is_used = omega (arith, slice_get_within r.types i t at, valid.order.all_used, met_from [] (all_groups r.keys));
        is_new = type_is_new i t at;
      }

  -- an entry of the type at a place, by its place among all entries
  entry_of : (i : ℕ) (t : ResolvedType) (j : ℕ) (e : ResolvedEntry) → slice_get r.types i ≡ Some t → length (all_entries (take i r.types)) ≤ j → j < length (all_entries (take i r.types)) + length t.entries → slice_get (all_entries r.types) j ≡ Some e
      → slice_get t.entries (j - length (all_entries (take i r.types))) ≡ Some e
  entry_of i t j e at from below entry_at =
      let place : length (all_entries (take i r.types)) + (j - length (all_entries (take i r.types))) ≡ j = omega (arith, from) in
      sym (element_at (λ (u : ResolvedType). u.entries) r.types i t (j - length (all_entries (take i r.types))) at (omega (arith, from, below)))
      ∙ ap (slice_get (all_entries r.types)) place ∙ entry_at

  entry_holds : (i : ℕ) (t : ResolvedType) (at : slice_get r.types i ≡ Some t) → EntriesHold (content_of_resolved r) i (type_row (take i r.types) t)
  entry_holds i t at = λ j e from below entry_at.
      let here : slice_get t.entries (j - length (all_entries (take i r.types))) ≡ Some e = entry_of i t j e at from below entry_at in
      let of_type : TypeIsValid t = All_at TypeIsValid r.types i t valid.each_type at in
      let holds : EntryIsValid t e = All_at (EntryIsValid t) t.entries (j - length (all_entries (take i r.types))) e of_type.each_entry here in
      record {
        mods = holds.mods;
        preserve = holds.preserve;
        within = holds.mods_within;
        preserve_within = holds.preserve_within;
        some_level = holds.level.some_level;
        level = holds.level.level_within;
        is_new = λ l d from_l below_l d_at.
            of_type.entries_apart (j - length (all_entries (take i r.types))) (l - length (all_entries (take i r.types))) e d (omega (arith, from_l, below_l)) here
            (entry_of i t l d at from_l (omega (arith, below_l, below)) d_at);
      }

  -- ---- Keys, groups and cells

  key_is_new : (i : ℕ) (k : ResolvedKey) → slice_get r.keys i ≡ Some k → IsNewName (rows_of (key_row r.types) r.keys) (key_name (content_of_resolved r)) i (key_name (content_of_resolved r) (key_row r.types (take i r.keys) k))
  key_is_new i k at = λ j row below row_at same.
      let from = row_from (key_row r.types) r.keys j row row_at in
      valid.keys_apart i j k from.0 below at from.1
      (sym (key_name_at r j from.0 from.1) ∙ ap (key_name (content_of_resolved r)) from.2 ∙ same ∙ key_name_at r i k at)

  key_holds : (i : ℕ) (k : ResolvedKey) → slice_get r.keys i ≡ Some k → KeyHolds (content_of_resolved r) i (key_row r.types (take i r.keys) k)
  key_holds i k at =
      let holds : KeyIsValid r.types k = All_at (KeyIsValid r.types) r.keys i k valid.each_key at in
      record {
        code = holds.code_fits;
        modmap = holds.mapped;
        range = holds.range_holds;
        groups = holds.few;
        name_length = holds.name_fits;
        first_name = omega (arith, type_names_are, key_name_sum i);
        first_group = sym (group_sum i);
        rises = λ j row below row_at.
            let from = row_from (key_row r.types) r.keys j row row_at in
            let less : from.0.code < k.code = valid.codes_rise i j k from.0 below at from.1 in
            omega (arith, less, ap (λ (l : KeyRow). l.code) from.2);
        is_new = key_is_new i k at;
      }

  group_holds : (i : ℕ) (g : ResolvedGroup) → slice_get (all_groups r.keys) i ≡ Some g → GroupHolds (content_of_resolved r) i (group_row (take i (all_groups r.keys)) g)
  group_holds i g at =
      let holds : GroupIsValid r.types g = All_at (GroupIsValid r.types) (all_groups r.keys) i g groups_valid at in
      record {
        key_type = omega (arith, type_exists r.types g (slice_get r.types g.key_type) refl holds.whole, rows_length type_row r.types);
        first_use = omega (arith, valid.order.each_first i g at, met_before (all_groups r.keys) i);
        first_cell = sym (cell_sum i);
      }

  cell_holds : (i : ℕ) (d : ResolvedCell) → slice_get (all_cells (all_groups r.keys)) i ≡ Some d → CellHolds (content_of_resolved r) i (cell_row (take i (all_cells (all_groups r.keys))) d)
  cell_holds i d at =
      let holds : CellIsValid d = All_at CellIsValid (all_cells (all_groups r.keys)) i d cells_valid at in
      record { keysyms = holds.few; action = holds.does; first_keysym = sym (keysym_sum i) }

  -- ---- Names

  name_holds : EachRow (content_of_resolved r).names (NameByteHolds (content_of_resolved r))
  name_holds i b at = record {
    byte =
        All_at (λ c. c < 2 ^ 8) (names_of_types r.types ++ names_of_keys r.keys) i b
        (All-append (λ c. c < 2 ^ 8) (names_of_types r.types) (names_of_keys r.keys) type_bytes (All-weaker IsKeyByte (λ c. c < 2 ^ 8) (λ c holds. omega (arith, key_byte_small c holds)) (names_of_keys r.keys) key_bytes))
        at;
    of_key = λ from below.
        let place : length (names_of_types r.types) + (i - length (names_of_types r.types)) ≡ i = omega (arith, from, type_names_are) in
        All_at IsKeyByte (names_of_keys r.keys) (i - length (names_of_types r.types)) b key_bytes
        (sym (get_behind (names_of_types r.types) (names_of_keys r.keys) (i - length (names_of_types r.types)))
        ∙ ap (slice_get (names_of_types r.types ++ names_of_keys r.keys)) place ∙ at);
  }

  pub valid_is_sound : Sound (content_of_resolved r)
  valid_is_sound = record {
    counts = counts_hold;
    types = each_row type_row r.types (TypeHolds (content_of_resolved r)) type_holds;
    entries = each_row type_row r.types (EntriesHold (content_of_resolved r)) entry_holds;
    keys = each_row (key_row r.types) r.keys (KeyHolds (content_of_resolved r)) key_holds;
    groups = each_row group_row (all_groups r.keys) (GroupHolds (content_of_resolved r)) group_holds;
    cells = each_row cell_row (all_cells (all_groups r.keys)) (CellHolds (content_of_resolved r)) cell_holds;
    keysyms = λ i s at. All_at IsKeysym (all_keysyms (all_cells (all_groups r.keys))) i s keysyms_valid at;
    indicators = λ i d at. absurd (none-some d at);
    group_names = λ i g at. absurd (none-some g at);
    names = name_holds;
  }

-- the same of any tables that hold r
pub tables_sound : (c : Content) (r : Resolved) → c ≡ content_of_resolved r → IsValid r → Sound c
tables_sound c r held valid = subst Sound (sym held) (valid_is_sound r valid)

-- Tables with indicators and names of groups: they show the same, with the indicator maps, and are sound where all is valid.
use Rattle.std.proofs.Common.{ℕ, suc, ◌+◌, ◌<◌, ◌≤◌, ◌≡◌, ◌^◌, All, List, [], ◌∷◌, ◌++◌, Some, get_or, drop, length, map, take, slice_get, sum_by, refl, sym, ap, subst, ◌∙◌, arith, append_assoc}
use Rattle.std.proofs.lemmas.List.{drop-take, length-append, take-append-le}
use Rattle.std.proofs.lemmas.List.Elements.{All-append, All-weaker}
use Rattle.std.proofs.lemmas.List.Sums.{sum_by_more_le}
use Rattle.std.proofs.lemmas.Option.{get_or_from_slice_get, slice_get-get_or, slice_get_within}
use Rattle.kx_builder.proofs.Agreeing.{All_at, tables_agree}
use Rattle.kx_builder.proofs.Counting.{each_row, row_from, sum_before, sum_of_rows}
use Rattle.kx_builder.proofs.Placing.{get_before, part_between, rows_length, split_at}
use Rattle.kx_builder.proofs.Sounding.{valid_is_small, valid_is_sound, any, all_any}
use Rattle.kx_builder.specs.Agreement.{ShowsSame}
use Rattle.kx_builder.specs.Valid.{IsValid}
use Rattle.kx_builder.specs.IndicatorMaps.{GroupNameIsValid, IndicatorIsValid, IndicatorMapsAreValid, ResolvedIndicator, group_name_row, indicator_row, keymap_with, indicator_map_of_indicator, names_of_groups, names_of_indicators, with_indicators, with_indicator_maps}
use Rattle.kx_builder.specs.Placed.{content_of_resolved, rows_behind, rows_of}
use Rattle.kx_builder.specs.Resolved.{Resolved, keymap_of_resolved}
use Rattle.kx_builder.proofs.Room.{flat_length, name_bytes, All_flat}
use Rattle.kx_builder.specs.Whole.{IsWhole}
use Rattle.kx_tables.specs.Content.{Content, group_names, indicator_name, indicator_names, key_name, key_names, part, type_name, type_names}
use Rattle.kx_tables.specs.Keymap.{keymap_of, indicator_map_of}
use Rattle.kx_tables.specs.Sound.{CellHolds, CountsHold, EntriesHold, EntryHolds, GroupHolds, GroupNameHolds, IndicatorHolds, KeyHolds, NameByteHolds, Sound, TypeHolds}
use Rattle.kx_tables.specs.declared.rows.GroupNameRow.{GroupNameRow}
use Rattle.kx_tables.specs.declared.rows.IndicatorRow.{IndicatorRow}
use Rattle.kx_tables.specs.declared.rows.KeyRow.{KeyRow}
use Rattle.kx_tables.specs.declared.rows.TypeRow.{TypeRow}

-- ---- The keymap

indicator_maps_from : (first : ℕ) (before ds : List ResolvedIndicator) → map indicator_map_of (rows_behind (indicator_row first) before ds) ≡ map indicator_map_of_indicator ds
indicator_maps_from first before [] = refl
indicator_maps_from first before (d ∷ ds) = ap (λ ls. indicator_map_of_indicator d ∷ ls) (indicator_maps_from first (before ++ d ∷ []) ds)

pub indicator_maps_agree : (c : Content) (r : Resolved) (ds : List ResolvedIndicator) (gs : List (List ℕ)) → c ≡ content_of_resolved r → IsWhole r → ShowsSame (keymap_of (with_indicator_maps c ds gs)) (keymap_with (keymap_of_resolved r) ds)
indicator_maps_agree c r ds gs held whole =
    let same : ShowsSame (keymap_of c) (keymap_of_resolved r) = tables_agree c r held whole in
    record { groups = same.groups; known = same.known; shown = same.shown; indicator_maps = indicator_maps_from (length c.names) [] ds }

-- ---- Names that stay where they are

part_kept : (xs ys : List ℕ) (first count : ℕ) → first + count ≤ length xs → part (xs ++ ys) first count ≡ part xs first count
part_kept xs ys first count within = sym (drop-take first count (xs ++ ys)) ∙ ap (drop first) (take-append-le (first + count) xs ys within) ∙ drop-take first count xs

-- what stands up to a row's end is within the whole
sum_at : {X : Type 0} (f : X → ℕ) (xs : List X) (i : ℕ) (x : X) → slice_get xs i ≡ Some x → sum_by f (take i xs) + f x ≤ sum_by f xs
sum_at f xs i x at =
    let within : i < length xs = slice_get_within xs i x at in
    subst (λ y. sum_by f (take i xs) + f y ≤ sum_by f xs) (get_or_from_slice_get xs i x x at) (sum_by_more_le f xs i x within)

module _ (c : Content) (s : Sound c) (no_indicators : c.indicators ≡ []) (no_groups : c.group_names ≡ []) (few : length c.names ≤ 17755905) (ds : List ResolvedIndicator) (gs : List (List ℕ)) (valid : IndicatorMapsAreValid ds gs) where
  names_are : length c.names ≡ type_names c + key_names c
  names_are =
      let indicator_maps : indicator_names c ≡ 0 = ap (λ (xs : List IndicatorRow). sum_by (λ (d : IndicatorRow). d.name_length) xs) no_indicators in
      let groups : group_names c ≡ 0 = ap (λ (xs : List GroupNameRow). sum_by (λ (g : GroupNameRow). g.name_length) xs) no_groups in
      omega (arith, s.counts.names, indicator_maps, groups)

  all_names : (with_indicator_maps c ds gs).names ≡ c.names ++ (names_of_indicators ds ++ names_of_groups gs)
  all_names = append_assoc c.names (names_of_indicators ds) (names_of_groups gs)

  kept : (first count : ℕ) → first + count ≤ length c.names → part (with_indicator_maps c ds gs).names first count ≡ part c.names first count
  kept first count within = ap (λ ns. part ns first count) all_names ∙ part_kept c.names (names_of_indicators ds ++ names_of_groups gs) first count within

  type_named : (i : ℕ) (t : TypeRow) → slice_get c.types i ≡ Some t → type_name (with_indicator_maps c ds gs) t ≡ type_name c t
  type_named i t at =
      let holds : TypeHolds c i t = s.types i t at in
      kept t.first_name t.name_length (omega (arith, names_are, holds.first_name, sum_at (λ (u : TypeRow). u.name_length) c.types i t at))

  key_named : (i : ℕ) (k : KeyRow) → slice_get c.keys i ≡ Some k → key_name (with_indicator_maps c ds gs) k ≡ key_name c k
  key_named i k at =
      let holds : KeyHolds c i k = s.keys i k at in
      kept k.first_name k.name_length (omega (arith, names_are, holds.first_name, sum_at (λ (l : KeyRow). l.name_length) c.keys i k at))

  type_holds : (i : ℕ) (t : TypeRow) → slice_get c.types i ≡ Some t → TypeHolds (with_indicator_maps c ds gs) i t
  type_holds i t at =
      let holds : TypeHolds c i t = s.types i t at in
      record {
        mods = holds.mods;
        some_level = holds.some_level;
        levels = holds.levels;
        entries = holds.entries;
        name_length = holds.name_length;
        first_entry = holds.first_entry;
        first_name = holds.first_name;
        is_used = holds.is_used;
        is_new = λ j u below u_at same. holds.is_new j u below u_at (sym (type_named j u u_at) ∙ same ∙ type_named i t at);
      }

  key_holds : (i : ℕ) (k : KeyRow) → slice_get c.keys i ≡ Some k → KeyHolds (with_indicator_maps c ds gs) i k
  key_holds i k at =
      let holds : KeyHolds c i k = s.keys i k at in
      record {
        code = holds.code;
        modmap = holds.modmap;
        range = holds.range;
        groups = holds.groups;
        name_length = holds.name_length;
        first_name = holds.first_name;
        first_group = holds.first_group;
        rises = holds.rises;
        is_new = λ j l below l_at same. holds.is_new j l below l_at (sym (key_named j l l_at) ∙ same ∙ key_named i k at);
      }

  entries_hold : (i : ℕ) (t : TypeRow) → slice_get c.types i ≡ Some t → EntriesHold (with_indicator_maps c ds gs) i t
  entries_hold i t at = λ j e from below e_at.
      let holds : EntryHolds c t j e = s.entries i t at j e from below e_at in
      record {
        mods = holds.mods;
        preserve = holds.preserve;
        within = holds.within;
        preserve_within = holds.preserve_within;
        some_level = holds.some_level;
        level = holds.level;
        is_new = holds.is_new;
      }

  -- ---- The rows after

  indicator_sum : (i : ℕ) → sum_by (λ (d : IndicatorRow). d.name_length) (take i (rows_of (indicator_row (length c.names)) ds)) ≡ length (names_of_indicators (take i ds))
  indicator_sum i = sum_before (indicator_row (length c.names)) (λ (d : ResolvedIndicator). d.name) (λ (d : IndicatorRow). d.name_length) any (λ before d h. refl) ds i (all_any ds)

  indicators_are : indicator_names (with_indicator_maps c ds gs) ≡ length (names_of_indicators ds)
  indicators_are = sum_of_rows (indicator_row (length c.names)) (λ (d : ResolvedIndicator). d.name) (λ (d : IndicatorRow). d.name_length) any (λ before d h. refl) ds (all_any ds)

  abbrev row : List (List ℕ) → List ℕ → GroupNameRow
  row = group_name_row (length (with_indicators c ds).names)

  group_sum : (i : ℕ) → sum_by (λ (g : GroupNameRow). g.name_length) (take i (rows_of row gs)) ≡ length (names_of_groups (take i gs))
  group_sum i = sum_before row (λ (g : List ℕ). g) (λ (g : GroupNameRow). g.name_length) any (λ before g h. refl) gs i (all_any gs)

  groups_are : group_names (with_indicator_maps c ds gs) ≡ length (names_of_groups gs)
  groups_are = sum_of_rows row (λ (g : List ℕ). g) (λ (g : GroupNameRow). g.name_length) any (λ before g h. refl) gs (all_any gs)

  indicator_named : (i : ℕ) (d : ResolvedIndicator) → slice_get ds i ≡ Some d → indicator_name (with_indicator_maps c ds gs) (indicator_row (length c.names) (take i ds) d) ≡ d.name
  indicator_named i d at =
      part_between (λ (e : ResolvedIndicator). e.name) c.names (names_of_groups gs) (take i ds) d (drop (suc i) ds) (with_indicator_maps c ds gs).names
      (all_names ∙ ap (λ es. c.names ++ (names_of_indicators es ++ names_of_groups gs)) (split_at ds i d at))

  indicator_holds : (i : ℕ) (d : ResolvedIndicator) → slice_get ds i ≡ Some d → IndicatorHolds (with_indicator_maps c ds gs) i (indicator_row (length c.names) (take i ds) d)
  indicator_holds i d at =
      let holds : IndicatorIsValid d = All_at IndicatorIsValid ds i d valid.each_indicator at in
      record {
        place = omega (arith, valid.few_indicators, slice_get_within ds i d at);
        mods = holds.mods;
        mod_states = holds.mod_states;
        group_states = holds.group_states;
        groups = holds.groups;
        name_length = holds.name_fits;
        first_name = omega (arith, names_are, indicator_sum i);
        is_new = λ j other below other_at same.
            let from = row_from (indicator_row (length c.names)) ds j other other_at in
            valid.indicators_apart i j d from.0 below at from.1
            (sym (indicator_named j from.0 from.1) ∙ ap (indicator_name (with_indicator_maps c ds gs)) from.2 ∙ same ∙ indicator_named i d at);
      }

  group_name_holds : (i : ℕ) (g : List ℕ) → slice_get gs i ≡ Some g → GroupNameHolds (with_indicator_maps c ds gs) i (row (take i gs) g)
  group_name_holds i g at =
      let holds : GroupNameIsValid g = All_at GroupNameIsValid gs i g valid.each_group at in
      record {
        place = omega (arith, valid.few_groups, slice_get_within gs i g at);
        name_length = holds.name_fits;
        first_name = omega (arith, names_are, length-append c.names (names_of_indicators ds), indicators_are, group_sum i);
        last = λ e. valid.last i g at (e ∙ rows_length row gs);
      }

  -- ---- Names and counts

  indicator_bytes : All (λ b. b < 2 ^ 8) (names_of_indicators ds)
  indicator_bytes = All_flat (λ (d : ResolvedIndicator). d.name) (λ b. b < 2 ^ 8) ds (All-weaker IndicatorIsValid (λ (d : ResolvedIndicator). All (λ b. b < 2 ^ 8) d.name) (λ d holds. holds.each_byte) ds valid.each_indicator)

  group_bytes : All (λ b. b < 2 ^ 8) (names_of_groups gs)
  group_bytes = All_flat (λ (g : List ℕ). g) (λ b. b < 2 ^ 8) gs (All-weaker GroupNameIsValid (λ (g : List ℕ). All (λ b. b < 2 ^ 8) g) (λ g holds. holds.each_byte) gs valid.each_group)

  old_bytes : All (λ b. b < 2 ^ 8) c.names
  old_bytes = λ i d within. (s.names i (get_or c.names i d) (slice_get-get_or c.names i d within)).byte

  name_holds : (i : ℕ) (b : ℕ) → slice_get (with_indicator_maps c ds gs).names i ≡ Some b → NameByteHolds (with_indicator_maps c ds gs) i b
  name_holds i b at = record {
    byte = All_at (λ a. a < 2 ^ 8) (with_indicator_maps c ds gs).names i b (All-append (λ a. a < 2 ^ 8) (c.names ++ names_of_indicators ds) (names_of_groups gs) (All-append (λ a. a < 2 ^ 8) c.names (names_of_indicators ds) old_bytes indicator_bytes) group_bytes) at;
    of_key = λ from below.
        let within : i < length c.names = omega (arith, names_are, below) in
        (s.names i b (sym (get_before c.names (names_of_indicators ds ++ names_of_groups gs) i within) ∙ sym (ap (λ ns. slice_get ns i) all_names) ∙ at)).of_key from below;
  }

  few_more : length (names_of_indicators ds) ≤ 8160
  few_more = omega (arith, valid.few_indicators, flat_length (λ (d : ResolvedIndicator). d.name) 255 ds (All-weaker IndicatorIsValid (λ (d : ResolvedIndicator). length d.name ≤ 255) (λ d holds. holds.name_fits) ds valid.each_indicator))

  few_last : length (names_of_groups gs) ≤ 8160
  few_last = omega (arith, valid.few_groups, flat_length (λ (g : List ℕ). g) 255 gs (All-weaker GroupNameIsValid (λ (g : List ℕ). length g ≤ 255) (λ g holds. holds.name_fits) gs valid.each_group))

  length_is : length (with_indicator_maps c ds gs).names ≡ length c.names + length (names_of_indicators ds) + length (names_of_groups gs)
  length_is = omega (arith, length-append (c.names ++ names_of_indicators ds) (names_of_groups gs), length-append c.names (names_of_indicators ds))

  counts_hold : CountsHold (with_indicator_maps c ds gs)
  counts_hold = record {
    types = s.counts.types;
    entries = s.counts.entries;
    entries_fit = s.counts.entries_fit;
    keys = s.counts.keys;
    groups = s.counts.groups;
    cells = s.counts.cells;
    cells_fit = s.counts.cells_fit;
    keysyms = s.counts.keysyms;
    keysyms_fit = s.counts.keysyms_fit;
    names = omega (arith, length_is, names_are, indicators_are, groups_are);
    names_fit = omega (arith, length_is, few, few_more, few_last);
  }

  pub indicator_maps_sound : Sound (with_indicator_maps c ds gs)
  indicator_maps_sound = record {
    counts = counts_hold;
    types = type_holds;
    entries = entries_hold;
    keys = key_holds;
    groups = λ i g at. let holds : GroupHolds c i g = s.groups i g at in record { key_type = holds.key_type; first_use = holds.first_use; first_cell = holds.first_cell };
    cells = λ i d at. let holds : CellHolds c i d = s.cells i d at in record { keysyms = holds.keysyms; action = holds.action; first_keysym = holds.first_keysym };
    keysyms = s.keysyms;
    indicators = each_row (indicator_row (length c.names)) ds (IndicatorHolds (with_indicator_maps c ds gs)) indicator_holds;
    group_names = each_row row gs (GroupNameHolds (with_indicator_maps c ds gs)) group_name_holds;
    names = name_holds;
  }

pub tables_sound_with : (c : Content) (r : Resolved) (ds : List ResolvedIndicator) (gs : List (List ℕ)) → c ≡ content_of_resolved r → IsValid r → IndicatorMapsAreValid ds gs → Sound (with_indicator_maps c ds gs)
tables_sound_with c r ds gs held valid indicator_maps =
    subst (λ d. Sound (with_indicator_maps d ds gs)) (sym held) (indicator_maps_sound (content_of_resolved r) (valid_is_sound r valid) refl refl (name_bytes r (valid_is_small r valid)) ds gs indicator_maps)

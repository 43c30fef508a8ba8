-- Sound tables hold what is seen in them, table by table.
use Rattle.std.proofs.Common.{◌≡◌, ℕ, zero, suc, ◌+◌, List, [], ◌∷◌, ◌++◌, Some, length, map, take, drop, slice_get, refl, sym, ap, ap₂, ◌∙◌, arith, append_assoc, append-nil, length-append}
use Rattle.std.proofs.lemmas.List.{length-map}
use Rattle.std.proofs.lemmas.List.Sums.{sum_by-cons}
use Rattle.std.specs.List.{flat_map, sum_by}
use Rattle.kx_builder.specs.IndicatorMaps.{ResolvedIndicator, group_name_row, indicator_row, names_of_groups, names_of_indicators, with_indicator_maps}
use Rattle.kx_builder.specs.Placed.{all_cells, all_groups, all_keysyms, cell_row, content_of_resolved, group_row, key_row, names_of_keys, names_of_types, rows_behind, rows_of}
use Rattle.kx_builder.specs.Resolved.{ResolvedCell, ResolvedGroup, ResolvedKey, ResolvedType}
use Rattle.kx_builder.specs.Seen.{cell_seen, cells_end, groups_seen, key_seen, seen, type_seen}
use Rattle.kx_tables.specs.Content.{Content, group_name, indicator_name, indicator_names, key_name, key_names, levels_of, part, type_name, type_names}
use Rattle.kx_tables.specs.Sound.{Sound}
use Rattle.kx_tables.specs.declared.rows.CellRow.{CellRow}
use Rattle.kx_tables.specs.declared.rows.GroupNameRow.{GroupNameRow}
use Rattle.kx_tables.specs.declared.rows.GroupRow.{GroupRow}
use Rattle.kx_tables.specs.declared.rows.IndicatorRow.{IndicatorRow}
use Rattle.kx_tables.specs.declared.rows.KeyRow.{KeyRow}
use Rattle.kx_tables.specs.declared.rows.TypeRow.{TypeRow}
use Rattle.kx_tables.proofs.Bounds.{groups_within, group_name_within, indicator_name_within, key_name_within, keysyms_within, type_name_within, sum_up_to}
use Rattle.roundtrip_text.specs.Rows.{AreJoined}
use Rattle.roundtrip_text.specs.Source.{indicator_seen, indicators_printed, names_printed}
use Rattle.roundtrip_text.specs.Tables.{group_seen}
use Rattle.roundtrip_text.proofs.Joined.{joined, length-part, part-drop, parts_joined, flat_map-map, entries_placed, types_placed}

-- ---- Rows again

module _ {X R : Type 0} (see : R → X) where
  pub rows_again : (row : List X → X → R) (before : List X) (rows : List R) → ((i : ℕ) (r : R) → slice_get rows i ≡ Some r → row (before ++ map see (take i rows)) (see r) ≡ r) → rows_behind row before (map see rows) ≡ rows
  rows_again row before [] each = refl
  rows_again row before (r ∷ rs) each =
      ap₂ (λ a b. a ∷ b) (ap (λ xs. row xs (see r)) (sym (append-nil before)) ∙ each 0 r refl)
      (rows_again row (before ++ see r ∷ []) rs (λ i s is. ap (λ xs. row xs (see s)) (append_assoc before (see r ∷ []) (map see (take i rs))) ∙ each (suc i) s is))

  -- what is owned by the first of them is as much as their counts say
  pub lengths : {A : Type 0} (f : X → List A) (count : R → ℕ) (rows : List R) (i : ℕ) → ((j : ℕ) (r : R) → slice_get rows j ≡ Some r → length (f (see r)) ≡ count r) → length (flat_map f (map see (take i rows))) ≡ sum_by count (take i rows)
  lengths f count rows zero each = refl
  lengths f count [] (suc i) each = refl
  lengths f count (r ∷ rs) (suc i) each =
      (let rest = lengths f count rs i (λ j s is. each (suc j) s is) in omega (arith, rest, each 0 r refl, length-append (f (see r)) (flat_map f (map see (take i rs))), sum_by-cons count r (take i rs)))

  pub all_lengths : {A : Type 0} (f : X → List A) (count : R → ℕ) (rows : List R) → ((j : ℕ) (r : R) → slice_get rows j ≡ Some r → length (f (see r)) ≡ count r) → length (flat_map f (map see rows)) ≡ sum_by count rows
  all_lengths f count [] each = refl
  all_lengths f count (r ∷ rs) each =
      (let rest = all_lengths f count rs (λ j s is. each (suc j) s is) in omega (arith, rest, each 0 r refl, length-append (f (see r)) (flat_map f (map see rs)), sum_by-cons count r rs))

-- parts that stand one after the other, and the rest of the list
pub parts_behind : {R X : Type 0} (first count : R → ℕ) (xs : List X) (rows : List R) (at : ℕ) → AreJoined first count at rows → flat_map (λ r. part xs (first r) (count r)) rows ++ drop (at + sum_by count rows) xs ≡ drop at xs
parts_behind first count xs [] at are = ap (λ n. drop n xs) (let same : at + 0 ≡ at = omega arith in same)
parts_behind first count xs (r ∷ rs) at are =
    append_assoc (part xs (first r) (count r)) (flat_map (λ r. part xs (first r) (count r)) rs) (drop (at + sum_by count (r ∷ rs)) xs)
    ∙ ap (λ n. part xs (first r) (count r) ++ (flat_map (λ r. part xs (first r) (count r)) rs ++ drop n xs)) (let same : at + sum_by count (r ∷ rs) ≡ at + count r + sum_by count rs = omega (arith, sum_by-cons count r rs) in same)
    ∙ ap₂ (λ n ys. part xs n (count r) ++ ys) are.0 (parts_behind first count xs rs (at + count r) are.1)
    ∙ part-drop xs at (count r)

module _ (c : Content) (sound : Sound c) where
  -- ---- Keys

  abbrev types : List ResolvedType
  types = map (type_seen c) c.types

  pub type_name_length : (i : ℕ) (t : TypeRow) → slice_get c.types i ≡ Some t → length (type_name c t) ≡ t.name_length
  type_name_length i t is = length-part c.names t.first_name t.name_length (type_name_within c sound i t is)

  pub key_name_length : (i : ℕ) (k : KeyRow) → slice_get c.keys i ≡ Some k → length (key_name c k) ≡ k.name_length
  key_name_length i k is = length-part c.names k.first_name k.name_length (key_name_within c sound i k is)

  groups_length : (gs : List GroupRow) → length (groups_seen c gs) ≡ length gs
  groups_length [] = refl
  groups_length (g ∷ gs) = ap suc (groups_length gs)

  key_groups_length : (i : ℕ) (k : KeyRow) → slice_get c.keys i ≡ Some k → length (part (groups_seen c c.groups) k.first_group k.groups) ≡ k.groups
  key_groups_length i k is = length-part (groups_seen c c.groups) k.first_group k.groups (let within = groups_within c sound i k is in omega (arith, within, groups_length c.groups))

  key_again : (i : ℕ) (k : KeyRow) → slice_get c.keys i ≡ Some k → key_row types (map (key_seen c) (take i c.keys)) (key_seen c k) ≡ k
  key_again i k is = λ j. record {
    code = k.code;
    modmap = k.modmap;
    range = k.range;
    groups = key_groups_length i k is j;
    name_length = key_name_length i k is j;
    first_name = (ap₂ (λ a b. a + b) (all_lengths (type_seen c) (λ (t : ResolvedType). t.name) (λ t. t.name_length) c.types type_name_length) (lengths (key_seen c) (λ (k : ResolvedKey). k.name) (λ k. k.name_length) c.keys i key_name_length) ∙ sym (sound.keys i k is).first_name) j;
    first_group = (lengths (key_seen c) (λ (k : ResolvedKey). k.groups) (λ k. k.groups) c.keys i key_groups_length ∙ sym (sound.keys i k is).first_group) j;
  }

  pub keys_placed : rows_of (key_row types) (map (key_seen c) c.keys) ≡ c.keys
  keys_placed = rows_again (key_seen c) (key_row types) [] c.keys key_again

  -- ---- Groups

  pub groups_joined : AreJoined (λ (g : GroupRow). g.first_cell) (levels_of c) 0 c.groups
  groups_joined = joined (λ (g : GroupRow). g.first_cell) (levels_of c) c.groups 0 (λ i g is. (let e = (sound.groups i g is).first_cell in omega (arith, e)))

  seen_by_row : (gs : List GroupRow) (at : ℕ) → AreJoined (λ (g : GroupRow). g.first_cell) (levels_of c) at gs → at + sum_by (levels_of c) gs ≡ length c.cells → groups_seen c gs ≡ map (group_seen c) gs
  seen_by_row [] at are total = refl
  seen_by_row (g ∷ gs) at are total =
      let rest : at + levels_of c g + sum_by (levels_of c) gs ≡ length c.cells = omega (arith, total, sum_by-cons (levels_of c) g gs) in
      ap₂ (λ n hs. let h : ResolvedGroup = record { key_type = g.key_type; cells = part (map (cell_seen c) c.cells) g.first_cell n } in h ∷ hs)
      (let ends : cells_end c gs ≡ at + levels_of c g = next gs are.1 rest in omega (arith, ends, are.0)) (seen_by_row gs (at + levels_of c g) are.1 rest)
    where
      next : (hs : List GroupRow) → AreJoined (λ (g : GroupRow). g.first_cell) (levels_of c) (at + levels_of c g) hs → at + levels_of c g + sum_by (levels_of c) hs ≡ length c.cells → cells_end c hs ≡ at + levels_of c g
      next [] are total = omega (arith, total)
      next (h ∷ hs) are total = are.0

  pub groups_by_row : groups_seen c c.groups ≡ map (group_seen c) c.groups
  groups_by_row = seen_by_row c.groups 0 groups_joined (let n = sound.counts.cells in omega (arith, n))

  pub group_cells_length : (i : ℕ) (g : GroupRow) → slice_get c.groups i ≡ Some g → length (part (map (cell_seen c) c.cells) g.first_cell (levels_of c g)) ≡ levels_of c g
  group_cells_length i g is =
      length-part (map (cell_seen c) c.cells) g.first_cell (levels_of c g)
      (let e = (sound.groups i g is).first_cell in let n = sound.counts.cells in omega (arith, e, n, sum_up_to (levels_of c) c.groups i g is, length-map c.cells (cell_seen c)))

  group_again : (i : ℕ) (g : GroupRow) → slice_get c.groups i ≡ Some g → group_row (map (group_seen c) (take i c.groups)) (group_seen c g) ≡ g
  group_again i g is = λ j. record {
    key_type = g.key_type;
    first_cell = (lengths (group_seen c) (λ (g : ResolvedGroup). g.cells) (levels_of c) c.groups i group_cells_length ∙ sym (sound.groups i g is).first_cell) j;
  }

  all_groups_seen : all_groups (map (key_seen c) c.keys) ≡ groups_seen c c.groups
  all_groups_seen =
      flat_map-map (λ (k : ResolvedKey). k.groups) (key_seen c) c.keys
      ∙ parts_joined (λ (k : KeyRow). k.first_group) (λ k. k.groups) (groups_seen c c.groups) c.keys 0
      (joined (λ (k : KeyRow). k.first_group) (λ k. k.groups) c.keys 0 (λ i k is. (let e = (sound.keys i k is).first_group in omega (arith, e))))
      (let n = sound.counts.groups in omega (arith, n, groups_length c.groups))

  pub all_groups_by_row : all_groups (map (key_seen c) c.keys) ≡ map (group_seen c) c.groups
  all_groups_by_row = all_groups_seen ∙ groups_by_row

  pub groups_placed : rows_of group_row (all_groups (map (key_seen c) c.keys)) ≡ c.groups
  groups_placed = ap (rows_of group_row) all_groups_by_row ∙ rows_again (group_seen c) group_row [] c.groups group_again

  -- ---- Cells and keysyms

  pub all_cells_seen : all_cells (all_groups (map (key_seen c) c.keys)) ≡ map (cell_seen c) c.cells
  all_cells_seen =
      ap all_cells all_groups_by_row
      ∙ flat_map-map (λ (g : ResolvedGroup). g.cells) (group_seen c) c.groups
      ∙ parts_joined (λ (g : GroupRow). g.first_cell) (levels_of c) (map (cell_seen c) c.cells) c.groups 0 groups_joined
      (let n = sound.counts.cells in omega (arith, n, length-map c.cells (cell_seen c)))

  cell_keysyms_length : (i : ℕ) (d : CellRow) → slice_get c.cells i ≡ Some d → length (part c.keysyms d.first_keysym d.keysyms) ≡ d.keysyms
  cell_keysyms_length i d is = length-part c.keysyms d.first_keysym d.keysyms (keysyms_within c sound i d is)

  cell_again : (i : ℕ) (d : CellRow) → slice_get c.cells i ≡ Some d → cell_row (map (cell_seen c) (take i c.cells)) (cell_seen c d) ≡ d
  cell_again i d is = λ j. record {
    keysyms = cell_keysyms_length i d is j;
    action = d.action;
    first_keysym = (lengths (cell_seen c) (λ (d : ResolvedCell). d.syms) (λ d. d.keysyms) c.cells i cell_keysyms_length ∙ sym (sound.cells i d is).first_keysym) j;
  }

  pub cells_placed : rows_of cell_row (all_cells (all_groups (map (key_seen c) c.keys))) ≡ c.cells
  cells_placed = ap (rows_of cell_row) all_cells_seen ∙ rows_again (cell_seen c) cell_row [] c.cells cell_again

  pub keysyms_placed : all_keysyms (all_cells (all_groups (map (key_seen c) c.keys))) ≡ c.keysyms
  keysyms_placed =
      ap all_keysyms all_cells_seen
      ∙ flat_map-map (λ (d : ResolvedCell). d.syms) (cell_seen c) c.cells
      ∙ parts_joined (λ (d : CellRow). d.first_keysym) (λ d. d.keysyms) c.keysyms c.cells 0
      (joined (λ (d : CellRow). d.first_keysym) (λ d. d.keysyms) c.cells 0 (λ i d is. (let e = (sound.cells i d is).first_keysym in omega (arith, e))))
      (let n = sound.counts.keysyms in omega (arith, n))

  -- ---- Names

  abbrev keys : List ResolvedKey
  keys = map (key_seen c) c.keys

  type_bytes : names_of_types types ++ drop (type_names c) c.names ≡ c.names
  type_bytes =
      ap₂ (λ bs n. bs ++ drop n c.names) (flat_map-map (λ (t : ResolvedType). t.name) (type_seen c) c.types) (let same : type_names c ≡ 0 + type_names c = omega arith in same)
      ∙ parts_behind (λ (t : TypeRow). t.first_name) (λ t. t.name_length) c.names c.types 0
      (joined (λ (t : TypeRow). t.first_name) (λ t. t.name_length) c.types 0 (λ i t is. (let e = (sound.types i t is).first_name in omega (arith, e))))

  key_bytes : names_of_keys keys ++ drop (type_names c + key_names c) c.names ≡ drop (type_names c) c.names
  key_bytes =
      ap (λ bs. bs ++ drop (type_names c + key_names c) c.names) (flat_map-map (λ (k : ResolvedKey). k.name) (key_seen c) c.keys)
      ∙ parts_behind (λ (k : KeyRow). k.first_name) (λ k. k.name_length) c.names c.keys (type_names c)
      (joined (λ (k : KeyRow). k.first_name) (λ k. k.name_length) c.keys (type_names c) (λ i k is. (let e = (sound.keys i k is).first_name in omega (arith, e))))

  indicator_bytes : names_of_indicators (indicators_printed c) ++ drop (type_names c + key_names c + indicator_names c) c.names ≡ drop (type_names c + key_names c) c.names
  indicator_bytes =
      ap (λ bs. bs ++ drop (type_names c + key_names c + indicator_names c) c.names) (flat_map-map (λ (d : ResolvedIndicator). d.name) (indicator_seen c) c.indicators)
      ∙ parts_behind (λ (d : IndicatorRow). d.first_name) (λ d. d.name_length) c.names c.indicators (type_names c + key_names c)
      (joined (λ (d : IndicatorRow). d.first_name) (λ d. d.name_length) c.indicators (type_names c + key_names c) (λ i d is. (let e = (sound.indicators i d is).first_name in omega (arith, e))))

  group_bytes : names_of_groups (names_printed c) ≡ drop (type_names c + key_names c + indicator_names c) c.names
  group_bytes =
      flat_map-map (λ (g : List ℕ). g) (group_name c) c.group_names
      ∙ parts_joined (λ (g : GroupNameRow). g.first_name) (λ g. g.name_length) c.names c.group_names (type_names c + key_names c + indicator_names c)
      (joined (λ (g : GroupNameRow). g.first_name) (λ g. g.name_length) c.group_names (type_names c + key_names c + indicator_names c) (λ i g is. (let e = (sound.group_names i g is).first_name in omega (arith, e))))
      (let n = sound.counts.names in omega (arith, n))

  pub names_placed : ((names_of_types types ++ names_of_keys keys) ++ names_of_indicators (indicators_printed c)) ++ names_of_groups (names_printed c) ≡ c.names
  names_placed =
      append_assoc (names_of_types types ++ names_of_keys keys) (names_of_indicators (indicators_printed c)) (names_of_groups (names_printed c))
      ∙ ap (λ bs. (names_of_types types ++ names_of_keys keys) ++ (names_of_indicators (indicators_printed c) ++ bs)) group_bytes
      ∙ ap (λ bs. (names_of_types types ++ names_of_keys keys) ++ bs) indicator_bytes
      ∙ append_assoc (names_of_types types) (names_of_keys keys) (drop (type_names c + key_names c) c.names)
      ∙ ap (λ bs. names_of_types types ++ bs) key_bytes
      ∙ type_bytes

  -- ---- Indicators and names of groups

  pub indicator_name_length : (i : ℕ) (d : IndicatorRow) → slice_get c.indicators i ≡ Some d → length (indicator_name c d) ≡ d.name_length
  indicator_name_length i d is = length-part c.names d.first_name d.name_length (indicator_name_within c sound i d is)

  pub group_name_length : (i : ℕ) (g : GroupNameRow) → slice_get c.group_names i ≡ Some g → length (group_name c g) ≡ g.name_length
  group_name_length i g is = length-part c.names g.first_name g.name_length (group_name_within c sound i g is)

  first_bytes : length (names_of_types types ++ names_of_keys keys) ≡ type_names c + key_names c
  first_bytes =
      (let a = all_lengths (type_seen c) (λ (t : ResolvedType). t.name) (λ t. t.name_length) c.types type_name_length in
      let b = all_lengths (key_seen c) (λ (k : ResolvedKey). k.name) (λ k. k.name_length) c.keys key_name_length in
      omega (arith, a, b, length-append (names_of_types types) (names_of_keys keys)))

  indicator_again : (i : ℕ) (d : IndicatorRow) → slice_get c.indicators i ≡ Some d → indicator_row (length (names_of_types types ++ names_of_keys keys)) (map (indicator_seen c) (take i c.indicators)) (indicator_seen c d) ≡ d
  indicator_again i d is = λ j. record {
    mods = d.mods;
    mod_states = d.mod_states;
    group_states = d.group_states;
    groups = d.groups;
    name_length = indicator_name_length i d is j;
    first_name = (ap₂ (λ a b. a + b) first_bytes (lengths (indicator_seen c) (λ (d : ResolvedIndicator). d.name) (λ d. d.name_length) c.indicators i indicator_name_length) ∙ sym (sound.indicators i d is).first_name) j;
  }

  pub indicators_placed : rows_of (indicator_row (length (names_of_types types ++ names_of_keys keys))) (indicators_printed c) ≡ c.indicators
  indicators_placed = rows_again (indicator_seen c) (indicator_row (length (names_of_types types ++ names_of_keys keys))) [] c.indicators indicator_again

  more_bytes : length ((names_of_types types ++ names_of_keys keys) ++ names_of_indicators (indicators_printed c)) ≡ type_names c + key_names c + indicator_names c
  more_bytes =
      (let a = all_lengths (indicator_seen c) (λ (d : ResolvedIndicator). d.name) (λ d. d.name_length) c.indicators indicator_name_length in
      omega (arith, first_bytes, a, length-append (names_of_types types ++ names_of_keys keys) (names_of_indicators (indicators_printed c))))

  group_name_again : (i : ℕ) (g : GroupNameRow) → slice_get c.group_names i ≡ Some g → group_name_row (length ((names_of_types types ++ names_of_keys keys) ++ names_of_indicators (indicators_printed c))) (map (group_name c) (take i c.group_names)) (group_name c g) ≡ g
  group_name_again i g is = λ j. record {
    name_length = group_name_length i g is j;
    first_name = (ap₂ (λ a b. a + b) more_bytes (lengths (group_name c) (λ (g : List ℕ). g) (λ g. g.name_length) c.group_names i group_name_length) ∙ sym (sound.group_names i g is).first_name) j;
  }

  pub group_names_placed : rows_of (group_name_row (length ((names_of_types types ++ names_of_keys keys) ++ names_of_indicators (indicators_printed c)))) (names_printed c) ≡ c.group_names
  group_names_placed = rows_again (group_name c) (group_name_row (length ((names_of_types types ++ names_of_keys keys) ++ names_of_indicators (indicators_printed c)))) [] c.group_names group_name_again

-- ---- All together

pub sound_placed : (c : Content) → Sound c → with_indicator_maps (content_of_resolved (seen c)) (indicators_printed c) (names_printed c) ≡ c
sound_placed c sound = λ i. record {
  types = types_placed c sound i;
  entries = entries_placed c sound i;
  keys = keys_placed c sound i;
  groups = groups_placed c sound i;
  cells = cells_placed c sound i;
  keysyms = keysyms_placed c sound i;
  indicators = indicators_placed c sound i;
  group_names = group_names_placed c sound i;
  names = names_placed c sound i;
}

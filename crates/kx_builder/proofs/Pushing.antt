-- Tables that hold what is resolved, with one more row, hold what is resolved with one more thing.
use Rattle.std.proofs.Common.{◌<◌, ◌≡◌, List, [], ◌∷◌, ◌++◌, Result, Ok, Err, OnOk, OnErr, length, refl, sym, ap, subst, ◌∙◌, arith, append_assoc}
use Rattle.std.proofs.lemmas.List.{append-nil, length-append, length_push, nil_from_length}
use Rattle.kx_builder.proofs.Placing.{flat_push, rows_length, rows_push}
use Rattle.kx_builder.proofs.Seeing.{seen_in, settled}
use Rattle.kx_builder.specs.Added.{cell_added, group_added, key_added, last_count, next_cell, next_group, next_key, next_type, type_added, with_cell_row, with_group_row, with_key_row, with_more_groups, with_type_row}
use Rattle.kx_builder.specs.Placed.{all_cells, all_entries, all_groups, all_keysyms, cell_row, content_of_resolved, group_row, key_row, names_of_keys, names_of_types, rows_behind, rows_of, type_row}
use Rattle.kx_builder.specs.Pushes.{change_last, group_with_cell, key_with_cell, key_with_group, last_groups, with_cell, with_group, with_key, with_type}
use Rattle.kx_builder.proofs.Grown.{change_end}
use Rattle.kx_builder.specs.Resolved.{Resolved, ResolvedCell, ResolvedGroup, ResolvedKey, ResolvedType}
use Rattle.kx_builder.specs.Seen.{seen}
use Rattle.kx_tables.specs.Content.{Content}
use Rattle.kx_tables.specs.declared.rows.CellRow.{CellRow}
use Rattle.kx_tables.specs.declared.rows.GroupRow.{GroupRow}
use Rattle.kx_tables.specs.declared.rows.KeyRow.{KeyRow}
use Rattle.kx_tables.specs.declared.rows.TypeRow.{TypeRow}

-- ---- After a push that passed, or was refused

pub push_kept : {X E : Type 0} (result : Result X E) (old new : Content) (r r' : Resolved) → old ≡ content_of_resolved r → OnOk result (new ≡ content_of_resolved r') → OnErr result (new ≡ old) → new ≡ content_of_resolved (seen new)
push_kept (Ok x) old new r r' held pushed refused = settled new r' pushed
push_kept (Err e) old new r r' held pushed refused = settled new r (refused ∙ held)

pub push_seen : {X E : Type 0} (result : Result X E) (new : Content) (r' : Resolved) → OnOk result (new ≡ content_of_resolved r') → OnOk result (seen new ≡ r')
push_seen (Ok x) new r' pushed = seen_in new r' pushed
push_seen (Err e) new r' pushed = tt

pub on_ok_both : {X E A B C : Type 0} (result : Result X E) → OnOk result A → OnOk result B → (A → B → C) → OnOk result C
on_ok_both (Ok x) a b f = f a b
on_ok_both (Err e) a b f = tt

pub on_ok_one : {X E A C : Type 0} (result : Result X E) → OnOk result A → (A → C) → OnOk result C
on_ok_one (Ok x) a f = f a
on_ok_one (Err e) a f = tt

-- ---- A type

type_placed : (ts : List ResolvedType) (t : ResolvedType) → type_added (content_of_resolved (record { types = ts; keys = [] })) t ≡ content_of_resolved (record { types = ts ++ t ∷ []; keys = [] })
type_placed ts t =
    let names : names_of_types ts ++ [] ≡ names_of_types ts = append-nil (names_of_types ts) in
    λ i. record {
      types = ((λ j. rows_of type_row ts ++ record { mods = t.mods; levels = t.levels; entries = length t.entries; name_length = length t.name; first_entry = length (all_entries ts); first_name = length (names j) } ∷ []) ∙ sym (rows_push type_row ts t)) i;
      entries = sym (flat_push (λ (u : ResolvedType). u.entries) ts t) i;
      keys = [];
      groups = [];
      cells = [];
      keysyms = [];
      indicators = [];
      group_names = [];
      names = (ap (λ ns. ns ++ t.name) names ∙ sym (flat_push (λ (u : ResolvedType). u.name) ts t) ∙ sym (append-nil (names_of_types (ts ++ t ∷ [])))) i;
    }

pub type_pushed : (c : Content) (r : Resolved) (t : ResolvedType) → c ≡ content_of_resolved r → r.keys ≡ [] → type_added c t ≡ content_of_resolved (with_type r t)
type_pushed c r t held no_keys =
    ap (λ d. type_added d t) held
    ∙ subst (λ (ks : List ResolvedKey). type_added (content_of_resolved (record { types = r.types; keys = ks })) t ≡ content_of_resolved (record { types = r.types ++ t ∷ []; keys = ks })) (sym no_keys) (type_placed r.types t)

-- ---- A key

key_placed : (r : Resolved) (k : ResolvedKey) → k.groups ≡ [] → key_added (content_of_resolved r) k ≡ content_of_resolved (with_key r k)
key_placed r k no_groups =
    let groups : all_groups r.keys ≡ all_groups (r.keys ++ k ∷ []) =
    sym (flat_push (λ (l : ResolvedKey). l.groups) r.keys k ∙ ap (λ gs. all_groups r.keys ++ gs) no_groups ∙ append-nil (all_groups r.keys)) in
    λ i. record {
      types = rows_of type_row r.types;
      entries = all_entries r.types;
      keys = ((λ j. rows_of (key_row r.types) r.keys ++ record { code = k.code; modmap = k.modmap; range = k.range; groups = length k.groups; name_length = length k.name; first_name = length-append (names_of_types r.types) (names_of_keys r.keys) j; first_group = rows_length group_row (all_groups r.keys) j } ∷ []) ∙ sym (rows_push (key_row r.types) r.keys k)) i;
      groups = rows_of group_row (groups i);
      cells = rows_of cell_row (all_cells (groups i));
      keysyms = all_keysyms (all_cells (groups i));
      indicators = [];
      group_names = [];
      names = (append_assoc (names_of_types r.types) (names_of_keys r.keys) k.name ∙ ap (λ ns. names_of_types r.types ++ ns) (sym (flat_push (λ (l : ResolvedKey). l.name) r.keys k))) i;
    }

pub key_pushed : (c : Content) (r : Resolved) (k : ResolvedKey) → c ≡ content_of_resolved r → k.groups ≡ [] → key_added c k ≡ content_of_resolved (with_key r k)
key_pushed c r k held no_groups = ap (λ d. key_added d k) held ∙ key_placed r k no_groups

-- ---- A group

pub last_split : {X : Type 0} (xs : List X) → 0 < length xs → (ys : List X) × (y : X) × (xs ≡ ys ++ y ∷ [])
last_split [] some = absurd (omega (arith, some))
last_split (x ∷ []) some = ([], x, refl)
last_split (x ∷ y ∷ zs) some =
    let rest = last_split (y ∷ zs) (omega arith) in
    (x ∷ rest.0, rest.1, ap (λ ws. x ∷ ws) rest.2)

-- the rows of keys of which the last one changes
rows_change : (ts : List ResolvedType) (ks : List ResolvedKey) (k l : ResolvedKey) (change : KeyRow → KeyRow) → change (key_row ts ks k) ≡ key_row ts ks l → change_last change (rows_of (key_row ts) (ks ++ k ∷ [])) ≡ rows_of (key_row ts) (ks ++ l ∷ [])
rows_change ts ks k l change e =
    ap (change_last change) (rows_push (key_row ts) ks k) ∙ change_end change (rows_of (key_row ts) ks) (key_row ts ks k)
    ∙ ap (λ row. rows_of (key_row ts) ks ++ row ∷ []) e ∙ sym (rows_push (key_row ts) ks l)

same_names : (ks : List ResolvedKey) (k l : ResolvedKey) → k.name ≡ l.name → names_of_keys (ks ++ k ∷ []) ≡ names_of_keys (ks ++ l ∷ [])
same_names ks k l e =
    flat_push (λ (m : ResolvedKey). m.name) ks k ∙ ap (λ ns. names_of_keys ks ++ ns) e ∙ sym (flat_push (λ (m : ResolvedKey). m.name) ks l)

groups_grown : (ks : List ResolvedKey) (k : ResolvedKey) (g : ResolvedGroup) → all_groups (ks ++ k ∷ []) ++ g ∷ [] ≡ all_groups (ks ++ key_with_group g k ∷ [])
groups_grown ks k g =
    ap (λ gs. gs ++ g ∷ []) (flat_push (λ (l : ResolvedKey). l.groups) ks k)
    ∙ append_assoc (all_groups ks) k.groups (g ∷ [])
    ∙ sym (flat_push (λ (l : ResolvedKey). l.groups) ks (key_with_group g k))

group_placed : (ts : List ResolvedType) (ks : List ResolvedKey) (k : ResolvedKey) (g : ResolvedGroup) → g.cells ≡ [] → group_added (content_of_resolved (record { types = ts; keys = ks ++ k ∷ [] })) g ≡ content_of_resolved (record { types = ts; keys = ks ++ key_with_group g k ∷ [] })
group_placed ts ks k g no_cells =
    let groups : all_groups (ks ++ k ∷ []) ++ g ∷ [] ≡ all_groups (ks ++ key_with_group g k ∷ []) = groups_grown ks k g in
    let cells : all_cells (all_groups (ks ++ k ∷ [])) ≡ all_cells (all_groups (ks ++ key_with_group g k ∷ [])) =
    sym (sym (ap all_cells groups) ∙ flat_push (λ (h : ResolvedGroup). h.cells) (all_groups (ks ++ k ∷ [])) g ∙ ap (λ ds. all_cells (all_groups (ks ++ k ∷ [])) ++ ds) no_cells ∙ append-nil (all_cells (all_groups (ks ++ k ∷ [])))) in
    λ i. record {
      types = rows_of type_row ts;
      entries = all_entries ts;
      keys = rows_change ts ks k (key_with_group g k) with_more_groups (λ j. record (key_row ts ks k) { groups = sym (length_push k.groups g) j }) i;
      groups = ((λ j. rows_of group_row (all_groups (ks ++ k ∷ [])) ++ record { key_type = g.key_type; first_cell = rows_length cell_row (all_cells (all_groups (ks ++ k ∷ []))) j } ∷ []) ∙ sym (rows_push group_row (all_groups (ks ++ k ∷ [])) g) ∙ ap (rows_of group_row) groups) i;
      cells = rows_of cell_row (cells i);
      keysyms = all_keysyms (cells i);
      indicators = [];
      group_names = [];
      names = names_of_types ts ++ same_names ks k (key_with_group g k) refl i;
    }

-- what holds of keys of which the last is named, holds of any keys but none
of_last : (P : List ResolvedKey → Type 0) (all : List ResolvedKey) → 0 < length all → ((ks : List ResolvedKey) (k : ResolvedKey) → P (ks ++ k ∷ [])) → P all
of_last P all some each =
    let split = last_split all some in
    subst P (sym split.2) (each split.0 split.1)

pub group_pushed : (c : Content) (r : Resolved) (g : ResolvedGroup) → c ≡ content_of_resolved r → g.cells ≡ [] → 0 < length r.keys → group_added c g ≡ content_of_resolved (with_group r g)
group_pushed c r g held no_cells some =
    ap (λ d. group_added d g) held
    ∙ of_last (λ ks. group_added (content_of_resolved (record { types = r.types; keys = ks })) g ≡ content_of_resolved (with_group (record { types = r.types; keys = ks }) g)) r.keys some
    (λ ks k. group_placed r.types ks k g no_cells ∙ (λ i. content_of_resolved (record { types = r.types; keys = sym (change_end (key_with_group g) ks k) i })))

-- ---- A cell

-- the last of all groups, with a cell more
module _ (ks : List ResolvedKey) (k : ResolvedKey) (hs : List ResolvedGroup) (g : ResolvedGroup) where
  abbrev key_ending : ResolvedGroup → ResolvedKey
  key_ending h = record k { groups = hs ++ h ∷ [] }

  groups_ending : (h : ResolvedGroup) → all_groups (ks ++ key_ending h ∷ []) ≡ (all_groups ks ++ hs) ++ h ∷ []
  groups_ending h = flat_push (λ (l : ResolvedKey). l.groups) ks (key_ending h) ∙ sym (append_assoc (all_groups ks) hs (h ∷ []))

  cells_ending : (h : ResolvedGroup) → all_cells (all_groups (ks ++ key_ending h ∷ [])) ≡ all_cells (all_groups ks ++ hs) ++ h.cells
  cells_ending h = ap all_cells (groups_ending h) ∙ flat_push (λ (f : ResolvedGroup). f.cells) (all_groups ks ++ hs) h

  cells_grown : (d : ResolvedCell) → all_cells (all_groups (ks ++ key_ending g ∷ [])) ++ d ∷ [] ≡ all_cells (all_groups (ks ++ key_ending (group_with_cell d g) ∷ []))
  cells_grown d =
      ap (λ ds. ds ++ d ∷ []) (cells_ending g)
      ∙ append_assoc (all_cells (all_groups ks ++ hs)) g.cells (d ∷ [])
      ∙ sym (cells_ending (group_with_cell d g))

  -- a group's row doesn't tell its own cells
  rows_ending : (d : ResolvedCell) → rows_of group_row (all_groups (ks ++ key_ending g ∷ [])) ≡ rows_of group_row (all_groups (ks ++ key_ending (group_with_cell d g) ∷ []))
  rows_ending d =
      ap (rows_of group_row) (groups_ending g) ∙ rows_push group_row (all_groups ks ++ hs) g
      ∙ sym (ap (rows_of group_row) (groups_ending (group_with_cell d g)) ∙ rows_push group_row (all_groups ks ++ hs) (group_with_cell d g))

  lengths_ending : (d : ResolvedCell) → length (hs ++ g ∷ []) ≡ length (hs ++ group_with_cell d g ∷ [])
  lengths_ending d = length_push hs g ∙ sym (length_push hs (group_with_cell d g))

  keys_ending : (ts : List ResolvedType) (d : ResolvedCell) → rows_of (key_row ts) (ks ++ key_ending g ∷ []) ≡ rows_of (key_row ts) (ks ++ key_ending (group_with_cell d g) ∷ [])
  keys_ending ts d =
      rows_push (key_row ts) ks (key_ending g)
      ∙ (λ i. rows_of (key_row ts) ks ++ record (key_row ts ks k) { groups = lengths_ending d i } ∷ [])
      ∙ sym (rows_push (key_row ts) ks (key_ending (group_with_cell d g)))

  cell_placed : (ts : List ResolvedType) (d : ResolvedCell) → cell_added (content_of_resolved (record { types = ts; keys = ks ++ key_ending g ∷ [] })) d ≡ content_of_resolved (record { types = ts; keys = ks ++ key_ending (group_with_cell d g) ∷ [] })
  cell_placed ts d =
      let before : List ResolvedCell = all_cells (all_groups (ks ++ key_ending g ∷ [])) in
      λ i. record {
        types = rows_of type_row ts;
        entries = all_entries ts;
        keys = keys_ending ts d i;
        groups = rows_ending d i;
        cells = (sym (rows_push cell_row before d) ∙ ap (rows_of cell_row) (cells_grown d)) i;
        keysyms = (sym (flat_push (λ (e : ResolvedCell). e.syms) before d) ∙ ap all_keysyms (cells_grown d)) i;
        indicators = [];
        group_names = [];
        names = names_of_types ts ++ same_names ks (key_ending g) (key_ending (group_with_cell d g)) refl i;
      }

pub last_groups_end : (ks : List ResolvedKey) (k : ResolvedKey) → last_groups (ks ++ k ∷ []) ≡ k.groups
last_groups_end [] k = refl
last_groups_end (l ∷ []) k = refl
last_groups_end (l ∷ m ∷ ks) k = last_groups_end (m ∷ ks) k

-- keys of which the last one has a group
of_last_group : (P : List ResolvedKey → Type 0) (all : List ResolvedKey) → 0 < length (last_groups all) → ((ks : List ResolvedKey) (k : ResolvedKey) (hs : List ResolvedGroup) (g : ResolvedGroup) → P (ks ++ record k { groups = hs ++ g ∷ [] } ∷ [])) → P all
of_last_group P all some each =
    of_last (λ ks. 0 < length (last_groups ks) → P ks) all (some_key all some) (λ ks k has.
    let split = last_split k.groups (rw (← last_groups_end ks k) has) in
    subst (λ (gs : List ResolvedGroup). P (ks ++ record k { groups = gs } ∷ [])) (sym split.2) (each ks k split.0 split.1)) some
  where
    some_key : (ks : List ResolvedKey) → 0 < length (last_groups ks) → 0 < length ks
    some_key [] has = absurd (omega (arith, has))
    some_key (k ∷ ks) has = omega arith

pub cell_pushed : (c : Content) (r : Resolved) (d : ResolvedCell) → c ≡ content_of_resolved r → 0 < length (last_groups r.keys) → cell_added c d ≡ content_of_resolved (with_cell r d)
cell_pushed c r d held some =
    ap (λ e. cell_added e d) held
    ∙ of_last_group (λ ks. cell_added (content_of_resolved (record { types = r.types; keys = ks })) d ≡ content_of_resolved (with_cell (record { types = r.types; keys = ks }) d)) r.keys some
    (λ ks k hs g. cell_placed ks k hs g r.types d ∙ sym (λ i. content_of_resolved (record {
      types = r.types;
      keys = (change_end (key_with_cell d) ks (record k { groups = hs ++ g ∷ [] }) ∙ (λ j. ks ++ record k { groups = change_end (group_with_cell d) hs g j } ∷ [])) i;
    })))

-- ---- What a push of rows makes of the tables

pub no_keys : (c : Content) (r : Resolved) → c ≡ content_of_resolved r → length c.keys ≡ 0 → r.keys ≡ []
no_keys c r held none = nil_from_length r.keys (sym (rows_length (key_row r.types) r.keys) ∙ sym (ap (λ d. length d.keys) held) ∙ none)

pub type_grown : {X E : Type 0} (result : Result X E) (old new : Content) (r : Resolved) (t : ResolvedType) (row : TypeRow) → old ≡ content_of_resolved r → length old.keys ≡ 0 → row ≡ next_type old t
    → OnOk result (new ≡ with_type_row old row t.entries t.name)
    → OnOk result (new ≡ content_of_resolved (with_type r t))
type_grown result old new r t row held none is added =
    on_ok_one result added (λ e. e ∙ (λ i. with_type_row old (is i) t.entries t.name) ∙ type_pushed old r t held (no_keys old r held none))

pub key_grown : {X E : Type 0} (result : Result X E) (old new : Content) (r : Resolved) (k : ResolvedKey) (row : KeyRow) → old ≡ content_of_resolved r → k.groups ≡ [] → row ≡ next_key old k
    → OnOk result (new ≡ with_key_row old row k.name)
    → OnOk result (new ≡ content_of_resolved (with_key r k))
key_grown result old new r k row held no_groups is added =
    on_ok_one result added (λ e. e ∙ (λ i. with_key_row old (is i) k.name) ∙ key_pushed old r k held no_groups)

key_count : (c : Content) (r : Resolved) → c ≡ content_of_resolved r → length c.keys ≡ length r.keys
key_count c r held = ap (λ d. length d.keys) held ∙ rows_length (key_row r.types) r.keys

pub group_grown : {X E : Type 0} (result : Result X E) (old new : Content) (r : Resolved) (g : ResolvedGroup) (row : GroupRow) → old ≡ content_of_resolved r → g.cells ≡ [] → row ≡ next_group old g → OnOk result (0 < length old.keys)
    → OnOk result (new ≡ with_group_row old row)
    → OnOk result (new ≡ content_of_resolved (with_group r g))
group_grown result old new r g row held no_cells is some added =
    on_ok_both result added some (λ e has. e ∙ (λ i. with_group_row old (is i)) ∙ group_pushed old r g held no_cells (omega (arith, key_count old r held, has)))

last_count_rows : (ts : List ResolvedType) (before ks : List ResolvedKey) → last_count (rows_behind (key_row ts) before ks) ≡ length (last_groups ks)
last_count_rows ts before [] = refl
last_count_rows ts before (k ∷ []) = refl
last_count_rows ts before (k ∷ l ∷ ks) = last_count_rows ts (before ++ k ∷ []) (l ∷ ks)

pub last_count_is : (c : Content) (r : Resolved) → c ≡ content_of_resolved r → last_count c.keys ≡ length (last_groups r.keys)
last_count_is c r held = ap (λ d. last_count d.keys) held ∙ last_count_rows r.types [] r.keys

pub cell_grown : {X E : Type 0} (result : Result X E) (old new : Content) (r : Resolved) (d : ResolvedCell) (row : CellRow) → old ≡ content_of_resolved r → 0 < last_count old.keys → row ≡ next_cell old d
    → OnOk result (new ≡ with_cell_row old row d.syms)
    → OnOk result (new ≡ content_of_resolved (with_cell r d))
cell_grown result old new r d row held some is added =
    on_ok_one result added (λ e. e ∙ (λ i. with_cell_row old (is i) d.syms) ∙ cell_pushed old r d held (omega (arith, last_count_is old r held, some)))

-- What is seen in the tables that hold what is resolved, is that.
use Rattle.std.proofs.Common.{ℕ, suc, ◌+◌, ◌-◌, ◌≡◌, List, [], ◌∷◌, ◌++◌, Some, map, length, take, drop, slice_get, refl, sym, ap, ◌∙◌, arith, append_assoc}
use Rattle.std.proofs.lemmas.List.{append-nil, length-append}
use Rattle.kx_builder.proofs.Placing.{flat_push, part_at, part_between, part_split, rows_length, rows_read, split_at}
use Rattle.kx_builder.specs.Placed.{all_cells, all_groups, cell_row, content_of_resolved, group_row, key_row, names_of_keys, names_of_types, rows_behind, rows_of, type_row}
use Rattle.kx_builder.specs.Resolved.{Resolved, ResolvedCell, ResolvedGroup, ResolvedKey, ResolvedType}
use Rattle.kx_builder.specs.Seen.{cell_seen, cells_end, groups_seen, key_seen, seen, type_seen}
use Rattle.kx_tables.specs.Content.{Content, part}

module _ (r : Resolved) where
  pub type_name_at : (i : ℕ) (t : ResolvedType) → slice_get r.types i ≡ Some t → part (names_of_types r.types ++ names_of_keys r.keys) (length (names_of_types (take i r.types))) (length t.name) ≡ t.name
  type_name_at i t e =
      let zero_more : 0 + length (names_of_types (take i r.types)) ≡ length (names_of_types (take i r.types)) = omega arith in
      rw (← zero_more) (part_between (λ (u : ResolvedType). u.name) [] (names_of_keys r.keys) (take i r.types) t (drop (suc i) r.types) _ (ap (λ ts. names_of_types ts ++ names_of_keys r.keys) (split_at r.types i t e)))

  pub key_name_at : (i : ℕ) (k : ResolvedKey) → slice_get r.keys i ≡ Some k → part (names_of_types r.types ++ names_of_keys r.keys) (length (names_of_types r.types) + length (names_of_keys (take i r.keys))) (length k.name) ≡ k.name
  key_name_at i k e =
      part_between (λ (l : ResolvedKey). l.name) (names_of_types r.types) [] (take i r.keys) k (drop (suc i) r.keys) _
      (ap (λ ks. names_of_types r.types ++ ks) (ap names_of_keys (split_at r.keys i k e) ∙ sym (append-nil (names_of_keys (take i r.keys ++ k ∷ drop (suc i) r.keys)))))

  types_seen : map (type_seen (content_of_resolved r)) (rows_of type_row r.types) ≡ r.types
  types_seen = rows_read type_row (type_seen (content_of_resolved r)) r.types (λ i t e j. record {
    name = type_name_at i t e j;
    mods = t.mods;
    levels = t.levels;
    entries = part_at (λ (u : ResolvedType). u.entries) r.types i t e j;
  })

  cells_seen : map (cell_seen (content_of_resolved r)) (rows_of cell_row (all_cells (all_groups r.keys))) ≡ all_cells (all_groups r.keys)
  cells_seen = rows_read cell_row (cell_seen (content_of_resolved r)) (all_cells (all_groups r.keys)) (λ i d e j. record {
    syms = part_at (λ (c : ResolvedCell). c.syms) (all_cells (all_groups r.keys)) i d e j;
    action = d.action;
  })

  -- the cells of a group end where those of the next begin
  end_is : (before : List ResolvedGroup) (g : ResolvedGroup) (rest : List ResolvedGroup) → all_groups r.keys ≡ before ++ g ∷ rest → cells_end (content_of_resolved r) (rows_behind group_row (before ++ g ∷ []) rest) ≡ length (all_cells (before ++ g ∷ []))
  end_is before g [] e = rows_length cell_row (all_cells (all_groups r.keys)) ∙ ap (λ gs. length (all_cells gs)) e
  end_is before g (h ∷ rest) e = refl

  groups_from : (before rest : List ResolvedGroup) → all_groups r.keys ≡ before ++ rest → groups_seen (content_of_resolved r) (rows_behind group_row before rest) ≡ rest
  groups_from before [] e = refl
  groups_from before (g ∷ rest) e =
      let size : cells_end (content_of_resolved r) (rows_behind group_row (before ++ g ∷ []) rest) - length (all_cells before) ≡ length g.cells =
      omega (arith, end_is before g rest e, ap length (flat_push (λ (h : ResolvedGroup). h.cells) before g), length-append (all_cells before) g.cells) in
      let cells : part (map (cell_seen (content_of_resolved r)) (rows_of cell_row (all_cells (all_groups r.keys)))) (length (all_cells before)) (cells_end (content_of_resolved r) (rows_behind group_row (before ++ g ∷ []) rest) - length (all_cells before)) ≡ g.cells =
      (λ i. part (cells_seen i) (length (all_cells before)) (size i))
      ∙ ap (λ gs. part (all_cells gs) (length (all_cells before)) (length g.cells)) e
      ∙ part_split (λ (h : ResolvedGroup). h.cells) before g rest in
      λ i. record { key_type = g.key_type; cells = cells i } ∷ groups_from (before ++ g ∷ []) rest (e ∙ sym (append_assoc before (g ∷ []) rest)) i

  keys_seen : map (key_seen (content_of_resolved r)) (rows_of (key_row r.types) r.keys) ≡ r.keys
  keys_seen = rows_read (key_row r.types) (key_seen (content_of_resolved r)) r.keys (λ i k e j. record {
    code = k.code;
    name = key_name_at i k e j;
    modmap = k.modmap;
    range = k.range;
    groups =
        (ap (λ gs. part gs (length (all_groups (take i r.keys))) (length k.groups)) (groups_from [] (all_groups r.keys) refl)
        ∙ part_at (λ (l : ResolvedKey). l.groups) r.keys i k e) j;
  })

  pub seen_placed : seen (content_of_resolved r) ≡ r
  seen_placed = λ j. record { types = types_seen j; keys = keys_seen j }

-- tables that hold r are those that hold what is seen in them, which is r
pub seen_in : (c : Content) (r : Resolved) → c ≡ content_of_resolved r → seen c ≡ r
seen_in c r e = ap seen e ∙ seen_placed r

pub settled : (c : Content) (r : Resolved) → c ≡ content_of_resolved r → c ≡ content_of_resolved (seen c)
settled c r e = e ∙ ap content_of_resolved (sym (seen_in c r e))

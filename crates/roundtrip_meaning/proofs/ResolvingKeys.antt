-- The groups and the cells of a printed key are those that were printed.
use Rattle.std.proofs.Common.{◌≡◌, ◌≢◌, ℕ, zero, suc, ◌+◌, ◌<◌, ◌≤◌, ◌&&◌, true, false, cond, List, [], ◌∷◌, ◌++◌, Option, None, Some, is_some, length, map, nat_lt, slice_get, slice_index, take, drop, unwrap_or, refl, sym, ap, ap₂, ◌∙◌, arith}
use Rattle.std.proofs.lemmas.Bool.{false_from_ne_true, le-leb, lt-ltb}
use Rattle.std.proofs.lemmas.List.{length-map}
use Rattle.std.proofs.lemmas.Option.{slice_get-map, slice_get_past, slice_get_within}
use Rattle.std.proofs.lemmas.Slice.Eq.{bytes_eq-Decides}
use Rattle.std.specs.List.{take-map, drop-map}
use Rattle.std.specs.Option.{option_and_then, option_map, option_map_or, option_or}
use Rattle.std.specs.Str.{bytes_eq}
use Rattle.kx_basics.specs.declared.limits.TheConstants.{MOST_GROUPS, MOST_NAME_BYTES}
use Rattle.kx_keys.specs.LevelActions.{LevelActions}
use Rattle.kx_builder.specs.Resolved.{ResolvedCell, ResolvedGroup, ResolvedType}
use Rattle.kx_builder.specs.Seen.{cell_seen, groups_seen, key_seen, type_seen}
use Rattle.kx_mods.specs.declared.mods.Mods.{Mods}
use Rattle.kx_keys.specs.Keys.{cell_of, cells_of, groups_of, key_of, resolved_group, type_names, type_place}
use Rattle.kx_tables.specs.Content.{Content, key_name, levels_of, part, type_name}
use Rattle.kx_tables.specs.Sound.{Sound}
use Rattle.kx_tables.specs.declared.rows.GroupRow.{GroupRow}
use Rattle.kx_tables.specs.declared.rows.KeyRow.{KeyRow}
use Rattle.kx_tables.specs.declared.rows.TypeRow.{TypeRow}
use Rattle.kx_types.specs.KeyTypes.{Definition}
use Rattle.kx_keys.specs.Given.{KeyGiven}
use Rattle.kx_keys.specs.GroupTypes.{automatic, content_group, group_count, group_type_name, groups_within, has_level, level_keysyms, one_level_name, type_definition, type_name as name_of_type, wanted_type}
use Rattle.roundtrip_meaning.specs.Given.{IsGiven}
use Rattle.roundtrip_text.specs.Source.{AreApart, EachOf, GroupFits, KeyFits, PrintedGroup, PrintedKey, cell_at, group_printed, key_printed, types_printed}
use Rattle.roundtrip_text.specs.Tables.{group_seen}
use Rattle.roundtrip_text.proofs.Tables.{group_cells_length, groups_by_row}
use Rattle.roundtrip_text.proofs.TablesHold.{part_get, type_of as type_there, types_apart}
use Rattle.roundtrip_text.proofs.TablesLists.{each_at, position_is, pushed, pushed_are}
use Rattle.kx_keys.specs.Typing.{Typing}
use Rattle.roundtrip_meaning.specs.Types.{definition_seen}

-- ---- Groups

module _ (k : PrintedKey) (fits : KeyFits k) (key : KeyGiven) (given : IsGiven k key) where
  group_has_level : (group : ℕ) (p : PrintedGroup) → slice_get k.groups group ≡ Some p → has_level key group ≡ true
  group_has_level group p is =
      ap (nat_lt 0) (given.width_is group ∙ ap (λ o. option_map_or (λ (p : PrintedGroup). length p.cells) o 0) is)
      ∙ lt-ltb 0 (length p.cells) (let some = (each_at GroupFits k.groups fits.groups group p is).some_level in omega (arith, some))

  no_level : (group : ℕ) → length k.groups ≤ group → has_level key group ≡ false
  no_level group past = ap (nat_lt 0) (given.width_is group ∙ ap (λ o. option_map_or (λ (p : PrintedGroup). length p.cells) o 0) (slice_get_past k.groups group past))

  counted : (n : ℕ) → length k.groups ≤ n → groups_within key n ≡ length k.groups
  unfolding groups_within
  counted zero within = omega (arith, within)
  counted (suc n) within = by (slice_get k.groups n) refl (counted n)
    where
      by : (o : Option PrintedGroup) → slice_get k.groups n ≡ o → (length k.groups ≤ n → groups_within key n ≡ length k.groups) → cond (has_level key n) (suc n) (groups_within key n) ≡ length k.groups
      by None is rest =
          let past : length k.groups ≤ n = none_past k.groups n is in
          ap (λ t. cond t (suc n) (groups_within key n)) (no_level n past) ∙ rest past
        where
          none_past : (ps : List PrintedGroup) (i : ℕ) → slice_get ps i ≡ None → length ps ≤ i
          none_past [] i is = omega arith
          none_past (p ∷ ps) zero is = cc
          none_past (p ∷ ps) (suc i) is = let rest = none_past ps i is in omega (arith, rest)
      by (Some p) is rest =
          let there : n < length k.groups = slice_get_within k.groups n p is in
          ap (λ t. cond t (suc n) (groups_within key n)) (group_has_level n p is) ∙ (omega (arith, there, within))

  pub count_is : group_count key ≡ length k.groups
  unfolding group_count
  count_is = counted MOST_GROUPS fits.few

  pub content_is : (group : ℕ) (p : PrintedGroup) → slice_get k.groups group ≡ Some p → content_group key group ≡ group
  content_is group p is = ap (λ t. cond t group 0) (group_has_level group p is)

  module _ (typing : Typing) where
    pub type_name_is : (group : ℕ) (p : PrintedGroup) → slice_get k.groups group ≡ Some p → is_some (typing.declared p.type_name) ≡ true → group_type_name typing key group ≡ p.type_name
    type_name_is group p is declares =
        ap (λ g. name_of_type typing (wanted_type typing.letters key g)) (content_is group p is)
        ∙ ap (λ o. name_of_type typing (option_or o (option_or key.key_type (automatic typing.letters (λ level. slice_index (level_keysyms key group level) 0) (key.width group))))) (given.type_is group p is)
        ∙ ap₂ (λ a b. cond (a && b) p.type_name one_level_name)
        (le-leb (length p.type_name) MOST_NAME_BYTES (each_at GroupFits k.groups fits.groups group p is).name_fits) declares

    names_pushed : (n : ℕ) → type_names typing key n ≡ pushed (group_type_name typing key) n
    unfolding type_names
    names_pushed zero = refl
    names_pushed (suc n) = ap (λ ns. ns ++ group_type_name typing key n ∷ []) (names_pushed n)

    pub names_are : EachOf (λ (p : PrintedGroup). is_some (typing.declared p.type_name) ≡ true) k.groups → type_names typing key (group_count key) ≡ map (λ (p : PrintedGroup). p.type_name) k.groups
    names_are declares =
        names_pushed (group_count key)
        ∙ pushed_are (group_type_name typing key) (map (λ (p : PrintedGroup). p.type_name) k.groups) (group_count key) (count_is ∙ sym (length-map k.groups (λ (p : PrintedGroup). p.type_name)))
        (λ i name is. at i name (slice_get k.groups i) refl (sym (slice_get-map (λ (p : PrintedGroup). p.type_name) k.groups i) ∙ is))
      where
        at : (i : ℕ) (name : List ℕ) (o : Option PrintedGroup) → slice_get k.groups i ≡ o → option_map (λ (p : PrintedGroup). p.type_name) (slice_get k.groups i) ≡ Some name → group_type_name typing key i ≡ name
        at i name None none is = let never : None ≡ Some name = ap (option_map (λ (p : PrintedGroup). p.type_name)) (sym none) ∙ is in cc
        at i name (Some p) there is =
            let same : p.type_name ≡ name = (let both : Some p.type_name ≡ Some name = ap (option_map (λ (p : PrintedGroup). p.type_name)) (sym there) ∙ is in cc) in
            type_name_is i p there (each_at (λ (p : PrintedGroup). is_some (typing.declared p.type_name) ≡ true) k.groups declares i p there) ∙ same

-- ---- A key

module _ (c : Content) (sound : Sound c) (typing : Typing) (declared_are : EachOf (λ (t : ResolvedType). typing.declared t.name ≡ Some (definition_seen t)) (types_printed c)) where
  abbrev type_list : List (List ℕ)
  type_list = map (λ (t : ResolvedType). t.name) (types_printed c)

  type_at : (i : ℕ) (t : TypeRow) → slice_get c.types i ≡ Some t → slice_get (types_printed c) i ≡ Some (type_seen c t)
  type_at i t is = slice_get-map (type_seen c) c.types i ∙ ap (option_map (type_seen c)) is

  -- the type of a group is declared under its name
  pub record DeclaresOf (g : GroupRow) : Type 0 where
    pub row : TypeRow
    pub at : slice_get c.types g.key_type ≡ Some row
    pub named : (group_printed c g).type_name ≡ type_name c row
    pub levels : levels_of c g ≡ row.levels
    pub definition : typing.declared (type_name c row) ≡ Some (definition_seen (type_seen c row))

  pub declares_of : (i : ℕ) (g : GroupRow) → slice_get c.groups i ≡ Some g → DeclaresOf g
  declares_of i g is =
      let t = type_there c sound i g is in
      record {
        row = t.row;
        at = t.at;
        named = ap (λ o. option_map_or (type_name c) o []) t.at;
        levels = ap (λ o. option_map_or (λ (t : TypeRow). t.levels) o 0) t.at;
        definition = each_at (λ (t : ResolvedType). typing.declared t.name ≡ Some (definition_seen t)) (types_printed c) declared_are g.key_type (type_seen c t.row) (type_at g.key_type t.row t.at);
      }

  pub group_declared : (i : ℕ) (g : GroupRow) → slice_get c.groups i ≡ Some g → is_some (typing.declared (group_printed c g).type_name) ≡ true
  group_declared i g is = let d = declares_of i g is in ap is_some (ap typing.declared d.named ∙ d.definition)

  place_is : (i : ℕ) (g : GroupRow) → slice_get c.groups i ≡ Some g → type_place type_list (group_printed c g).type_name ≡ g.key_type
  place_is i g is =
      let d = declares_of i g is in
      ap (type_place type_list) d.named
      ∙ ap (λ o. unwrap_or o 0)
      (position_is (λ (name : List ℕ). name) (bytes_eq (type_name c d.row)) type_list g.key_type (type_name c d.row) (apart_names (types_printed c) (types_apart c sound))
      (slice_get-map (λ (t : ResolvedType). t.name) (types_printed c) g.key_type ∙ ap (option_map (λ (t : ResolvedType). t.name)) (type_at g.key_type d.row d.at))
      ((bytes_eq-Decides (type_name c d.row) (type_name c d.row)).1 refl)
      (λ y other. false_from_ne_true (bytes_eq (type_name c d.row) y) (λ e. other (sym ((bytes_eq-Decides (type_name c d.row) y).0 e)))))
    where
      each_name : (t : ResolvedType) (ts : List ResolvedType) → EachOf (λ (u : ResolvedType). t.name ≢ u.name) ts → EachOf (λ (name : List ℕ). t.name ≢ name) (map (λ (t : ResolvedType). t.name) ts)
      each_name t [] each = tt
      each_name t (u ∷ ts) each = (each.0, each_name t ts each.1)

      apart_names : (ts : List ResolvedType) → AreApart (λ (t : ResolvedType). t.name) ts → AreApart (λ (name : List ℕ). name) (map (λ (t : ResolvedType). t.name) ts)
      apart_names [] apart = tt
      apart_names (t ∷ ts) apart = (each_name t ts apart.0, apart_names ts apart.1)

  module _ (row : KeyRow) (fits : KeyFits (key_printed c row)) (key : KeyGiven) (given : IsGiven (key_printed c row) key) (level_actions : LevelActions)
      (does : (group level : ℕ) (d : ResolvedCell) → cell_at (key_printed c row) group level ≡ Some d → level_actions group level ≡ d.action) where
    abbrev rows : List GroupRow
    rows = part c.groups row.first_group row.groups

    abbrev k : PrintedKey
    k = key_printed c row

    printed_at : (i : ℕ) (g : GroupRow) → slice_get rows i ≡ Some g → slice_get k.groups i ≡ Some (group_printed c g)
    printed_at i g is = slice_get-map (group_printed c) rows i ∙ ap (option_map (group_printed c)) is

    cells_pushed : (group n : ℕ) → cells_of level_actions key group n ≡ pushed (cell_of level_actions key group) n
    unfolding cells_of
    cells_pushed group zero = refl
    cells_pushed group (suc n) = ap (λ ds. ds ++ cell_of level_actions key group n ∷ []) (cells_pushed group n)

    cell_again : (i : ℕ) (g : GroupRow) → slice_get rows i ≡ Some g → (level : ℕ) (d : ResolvedCell) → slice_get (group_printed c g).cells level ≡ Some d → cell_of level_actions key i level ≡ d
    cell_again i g is level d there =
        let at : cell_at k i level ≡ Some d = ap (λ o. option_and_then (λ (p : PrintedGroup). slice_get p.cells level) o) (printed_at i g is) ∙ there in
        λ j. record { syms = given.keysyms_are i level d at j; action = does i level d at j }

    -- the cells that are seen are those of the group's rows
    cells_by_row : (g : GroupRow) → part (map (cell_seen c) c.cells) g.first_cell (levels_of c g) ≡ map (cell_seen c) (part c.cells g.first_cell (levels_of c g))
    cells_by_row g = ap (take (levels_of c g)) (drop-map (cell_seen c) g.first_cell c.cells) ∙ take-map (cell_seen c) (levels_of c g) (drop g.first_cell c.cells)

    printed_size : (i : ℕ) (g : GroupRow) → slice_get rows i ≡ Some g → levels_of c g ≡ length (group_printed c g).cells
    printed_size i g is = sym (group_cells_length c sound (row.first_group + i) g (part_get c.groups row.first_group row.groups i g is)) ∙ ap length (cells_by_row g)

    group_again : (i : ℕ) (g : GroupRow) → slice_get rows i ≡ Some g → resolved_group typing type_list level_actions key i ≡ group_seen c g
    group_again i g is =
        let place = part_get c.groups row.first_group row.groups i g is in
        let d = declares_of (row.first_group + i) g place in
        let named : group_type_name typing key i ≡ (group_printed c g).type_name = type_name_is k fits key given typing i (group_printed c g) (printed_at i g is) (group_declared (row.first_group + i) g place) in
        let levels : (type_definition typing (group_type_name typing key i)).levels ≡ levels_of c g =
        ap (λ n. (type_definition typing n).levels) (named ∙ d.named) ∙ ap (λ o. (unwrap_or o (let one : Definition = record { modifiers = 0; levels = 1; entries = [] } in one)).levels) d.definition ∙ sym d.levels in
        let cells : cells_of level_actions key (content_group key i) (type_definition typing (group_type_name typing key i)).levels ≡ part (map (cell_seen c) c.cells) g.first_cell (levels_of c g) =
        ap₂ (cells_of level_actions key) (content_is k fits key given i (group_printed c g) (printed_at i g is)) levels
        ∙ cells_pushed i (levels_of c g)
        ∙ pushed_are (cell_of level_actions key i) (group_printed c g).cells (levels_of c g) (printed_size i g is) (cell_again i g is)
        ∙ sym (cells_by_row g) in
        λ j. record { key_type = (ap (type_place type_list) named ∙ place_is (row.first_group + i) g place) j; cells = cells j }

    groups_pushed : (n : ℕ) → groups_of typing type_list level_actions key n ≡ pushed (resolved_group typing type_list level_actions key) n
    unfolding groups_of
    groups_pushed zero = refl
    groups_pushed (suc n) = ap (λ gs. gs ++ resolved_group typing type_list level_actions key n ∷ []) (groups_pushed n)

    groups_again : groups_of typing type_list level_actions key (group_count key) ≡ part (groups_seen c c.groups) row.first_group row.groups
    groups_again =
        groups_pushed (group_count key)
        ∙ pushed_are (resolved_group typing type_list level_actions key) (map (group_seen c) rows) (group_count key)
        (count_is k fits key given ∙ length-map rows (group_printed c) ∙ sym (length-map rows (group_seen c)))
        (λ i h is. at i h (slice_get rows i) refl (sym (slice_get-map (group_seen c) rows i) ∙ is))
        ∙ sym (ap (λ gs. part gs row.first_group row.groups) (groups_by_row c sound) ∙ ap (take row.groups) (drop-map (group_seen c) row.first_group c.groups) ∙ take-map (group_seen c) row.groups (drop row.first_group c.groups))
      where
        at : (i : ℕ) (h : ResolvedGroup) (o : Option GroupRow) → slice_get rows i ≡ o → option_map (group_seen c) (slice_get rows i) ≡ Some h → resolved_group typing type_list level_actions key i ≡ h
        at i h None none is = let never : None ≡ Some h = ap (option_map (group_seen c)) (sym none) ∙ is in cc
        at i h (Some g) there is =
            let same : group_seen c g ≡ h = (let both : Some (group_seen c g) ≡ Some h = ap (option_map (group_seen c)) (sym there) ∙ is in cc) in
            group_again i g there ∙ same

    -- a key is again what was seen of it
    pub key_again : (modmap : Mods) → modmap ≡ row.modmap → key_of typing type_list level_actions key row.code (key_name c row) modmap ≡ key_seen c row
    key_again modmap mapped = λ j. record { code = row.code; name = key_name c row; modmap = mapped j; range = given.range_is j; groups = groups_again j }

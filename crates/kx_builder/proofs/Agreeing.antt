-- The keymap of the tables that hold what is resolved is the keymap of that.
use Rattle.std.proofs.Common.{ℕ, zero, suc, pos, ◌+◌, ◌<◌, ◌≤◌, ◌≡◌, eqb, ltb, Bool, true, false, cond, max, All, List, [], ◌∷◌, ◌++◌, Option, None, Some, find, is_some, length, take, slice_get, refl, sym, ap, subst, ◌∙◌, arith, append_assoc}
use Rattle.std.proofs.lemmas.Bool.{false≢true, ltb-true}
use Rattle.std.proofs.lemmas.List.Elements.{All-head, All-tail}
use Rattle.std.proofs.lemmas.Nat.{mod_below}
use Rattle.std.proofs.lemmas.Option.{none-some, same_Some}
use Rattle.std.specs.Int.RustNames.{bit_and}
use Rattle.std.specs.Option.{IsSomeAnd}
use Rattle.kx_builder.proofs.Placing.{element_at, element_split, part_at, row_at}
use Rattle.kx_builder.specs.Agreement.{ShowsSame}
use Rattle.kx_builder.specs.Placed.{all_cells, all_groups, cell_row, content_of_resolved, group_row, key_row, rows_behind, type_row}
use Rattle.kx_builder.specs.Resolved.{Resolved, ResolvedCell, ResolvedGroup, ResolvedKey, ResolvedType, consumed_mods, entry_chosen, keymap_of_resolved, most_groups, shown_of_cell, shown_of_group, shown_of_key, shown_of_type}
use Rattle.kx_builder.specs.Whole.{GroupIsWhole, IsWhole, KeyIsWhole, LevelExists, TypeIsWhole}
use Rattle.kx_mods.specs.Mods.{mask}
use Rattle.kx_tables.specs.Content.{Content, greatest_groups}
use Rattle.kx_tables.specs.Keymap.{cell_shows, consumed_by, entry_for, group_shows, key_shows, keymap_of, level_of, nothing_shown, type_shows}
use Rattle.kx_tables.specs.Range.{in_range, outside}
use Rattle.kx_tables.specs.declared.rows.EntryRow.{EntryRow}
use Rattle.kx_tables.specs.declared.rows.Range.{Range}
use Rattle.kx_tables.specs.declared.rows.Range.TheVariants.{Wrap, Clamp, Redirect}

-- ---- Places that exist

cond_below : (b : Bool) (x y n : ℕ) → (b ≡ true → x < n) → y < n → cond b x y < n
cond_below true x y n first second = first refl
cond_below false x y n first second = second

outside_below : (e groups : ℕ) (range : Range) → 0 < groups → outside (pos e) groups range < groups
outside_below e groups Wrap some = mod_below e groups some
outside_below e groups Clamp some = omega (arith, some)
outside_below e groups (Redirect to) some = cond_below (ltb to groups) to 0 groups (ltb-true to groups) some

-- the group that stands for an effective one is one of the key's
pub group_below : (e groups : ℕ) (range : Range) → 0 < groups → in_range (pos e) groups range < groups
group_below e groups range some = cond_below (ltb e groups) e (outside (pos e) groups range) groups (ltb-true e groups) (outside_below e groups range some)

pub get_within : {X : Type 0} (xs : List X) (i : ℕ) → i < length xs → (x : X) × (slice_get xs i ≡ Some x)
get_within [] i within = absurd (omega (arith, within))
get_within (x ∷ xs) zero within = (x, refl)
get_within (x ∷ xs) (suc i) within = get_within xs i (omega (arith, within))

pub All_at : {X : Type 0} (P : X → Type 0) (xs : List X) (i : ℕ) (x : X) → All P xs → slice_get xs i ≡ Some x → P x
All_at P [] i x all e = absurd (none-some x e)
All_at P (y ∷ ys) zero x all e = subst P (same_Some y x e) (All-head P y ys all)
All_at P (y ∷ ys) (suc i) x all e = All_at P ys i x (All-tail P y ys all) e

found_level : (test : EntryRow → Bool) (levels : ℕ) (es : List EntryRow) → 1 ≤ levels → All (LevelExists levels) es → level_of (find test es) < levels
found_level test levels [] some each = omega (arith, some)
found_level test levels (e ∷ es) some each = by (test e) (found_level test levels es some (All-tail (LevelExists levels) e es each))
  where
    by : (b : Bool) → level_of (find test es) < levels → level_of (cond b (Some e) (find test es)) < levels
    by true rest = let exists : LevelExists levels e = All-head (LevelExists levels) e es each in omega (arith, exists.some_level, exists.level_within)
    by false rest = rest

-- ---- From cells up to keys

module _ (r : Resolved) (whole : IsWhole r) where
  cell_same : (i consumed : ℕ) (d : ResolvedCell) → slice_get (all_cells (all_groups r.keys)) i ≡ Some d → cell_shows (content_of_resolved r) consumed (slice_get (content_of_resolved r).cells i) ≡ shown_of_cell consumed (Some d)
  cell_same i consumed d e =
      ap (cell_shows (content_of_resolved r) consumed) (row_at cell_row (all_cells (all_groups r.keys)) i d e)
      ∙ (λ j. record { syms = part_at (λ (f : ResolvedCell). f.syms) (all_cells (all_groups r.keys)) i d e j; consumed = consumed; action = d.action })

  consumed_same : (before : List ResolvedType) (t : ResolvedType) (e : Option EntryRow) → consumed_by (type_row before t) e ≡ consumed_mods t e
  consumed_same before t None = refl
  consumed_same before t (Some e) = refl

  -- a level that a group has shows the same in the tables
  level_same : (p : ℕ) (g : ResolvedGroup) (consumed level : ℕ) → slice_get (all_groups r.keys) p ≡ Some g → level < length g.cells
      → cell_shows (content_of_resolved r) consumed (slice_get (content_of_resolved r).cells (length (all_cells (take p (all_groups r.keys))) + level)) ≡ shown_of_cell consumed (slice_get g.cells level)
  level_same p g consumed level at within =
      let cell = get_within g.cells level within in
      cell_same (length (all_cells (take p (all_groups r.keys))) + level) consumed cell.0 (element_at (λ (h : ResolvedGroup). h.cells) (all_groups r.keys) p g level at within ∙ cell.1)
      ∙ ap (shown_of_cell consumed) (sym cell.1)

  chosen_same : (i : ℕ) (t : ResolvedType) (mods : ℕ) → slice_get r.types i ≡ Some t → entry_for (content_of_resolved r) (type_row (take i r.types) t) mods ≡ entry_chosen t mods
  chosen_same i t mods at = ap (find (λ (e : EntryRow). eqb (mask e.mods) (bit_and mods (mask t.mods)))) (part_at (λ (u : ResolvedType). u.entries) r.types i t at)

  type_same : (p : ℕ) (g : ResolvedGroup) (mods : ℕ) (t : ResolvedType) → slice_get (all_groups r.keys) p ≡ Some g → slice_get r.types g.key_type ≡ Some t → length g.cells ≡ t.levels
      → type_shows (content_of_resolved r) (group_row (take p (all_groups r.keys)) g) mods (slice_get (content_of_resolved r).types g.key_type) ≡ shown_of_type g mods (slice_get r.types g.key_type)
  type_same p g mods t at type_at cells =
      let c : Content = content_of_resolved r in
      let chosen : Option EntryRow = entry_chosen t mods in
      let type_whole : TypeIsWhole t = All_at TypeIsWhole r.types g.key_type t whole.each_type type_at in
      let below : level_of chosen < t.levels = found_level (λ (e : EntryRow). eqb (mask e.mods) (bit_and mods (mask t.mods))) t.levels t.entries type_whole.some_level type_whole.level_of_each in
      ap (type_shows c (group_row (take p (all_groups r.keys)) g) mods) (row_at type_row r.types g.key_type t type_at)
      ∙ (λ j. cell_shows c (consumed_by (type_row (take g.key_type r.types) t) (chosen_same g.key_type t mods type_at j)) (slice_get c.cells (length (all_cells (take p (all_groups r.keys))) + level_of (chosen_same g.key_type t mods type_at j))))
      ∙ (λ j. cell_shows c (consumed_same (take g.key_type r.types) t chosen j) (slice_get c.cells (length (all_cells (take p (all_groups r.keys))) + level_of chosen)))
      ∙ level_same p g (consumed_mods t chosen) (level_of chosen) at (omega (arith, below, cells))
      ∙ ap (shown_of_type g mods) (sym type_at)

  group_whole_same : (p : ℕ) (g : ResolvedGroup) (mods : ℕ) (o : Option ResolvedType) → slice_get (all_groups r.keys) p ≡ Some g → slice_get r.types g.key_type ≡ o → IsSomeAnd o (λ t. length g.cells ≡ t.levels)
      → type_shows (content_of_resolved r) (group_row (take p (all_groups r.keys)) g) mods (slice_get (content_of_resolved r).types g.key_type) ≡ shown_of_type g mods (slice_get r.types g.key_type)
  group_whole_same p g mods None at type_at has = absurd has
  group_whole_same p g mods (Some t) at type_at has = type_same p g mods t at type_at has

  group_same : (p : ℕ) (g : ResolvedGroup) (mods : ℕ) → slice_get (all_groups r.keys) p ≡ Some g → GroupIsWhole r.types g → group_shows (content_of_resolved r) mods (slice_get (content_of_resolved r).groups p) ≡ shown_of_group r mods (Some g)
  group_same p g mods at group_whole =
      ap (group_shows (content_of_resolved r) mods) (row_at group_row (all_groups r.keys) p g at)
      ∙ group_whole_same p g mods (slice_get r.types g.key_type) at refl group_whole

  -- a group that a key has shows the same in the tables
  key_group_same : (before : List ResolvedKey) (k : ResolvedKey) (after : List ResolvedKey) (j mods : ℕ) → r.keys ≡ before ++ k ∷ after → KeyIsWhole r.types k → j < length k.groups
      → group_shows (content_of_resolved r) mods (slice_get (content_of_resolved r).groups (length (all_groups before) + j)) ≡ shown_of_group r mods (slice_get k.groups j)
  key_group_same before k after j mods e key_whole within =
      let group = get_within k.groups j within in
      let place : slice_get (all_groups r.keys) (length (all_groups before) + j) ≡ Some group.0 =
      ap (λ ks. slice_get (all_groups ks) (length (all_groups before) + j)) e
      ∙ element_split (λ (l : ResolvedKey). l.groups) before k after j within ∙ group.1 in
      group_same (length (all_groups before) + j) group.0 mods place (All_at (GroupIsWhole r.types) k.groups j group.0 key_whole group.1)
      ∙ ap (shown_of_group r mods) (sym group.1)

  cond_same : {X : Type 0} (b : Bool) (x y z : X) → (b ≡ false → y ≡ z) → cond b x y ≡ cond b x z
  cond_same true x y z e = refl
  cond_same false x y z e = e refl

  some_of : (n : ℕ) → eqb n 0 ≡ false → 0 < n
  some_of zero e = absurd (false≢true (sym e))
  some_of (suc n) e = omega arith

  key_same : (before : List ResolvedKey) (k : ResolvedKey) (after : List ResolvedKey) (group mods : ℕ) → r.keys ≡ before ++ k ∷ after → KeyIsWhole r.types k
      → key_shows (content_of_resolved r) group mods (Some (key_row r.types before k)) ≡ shown_of_key r group mods (Some k)
  key_same before k after group mods e key_whole =
      cond_same (eqb (length k.groups) 0) nothing_shown
      (group_shows (content_of_resolved r) mods (slice_get (content_of_resolved r).groups (length (all_groups before) + in_range (pos group) (length k.groups) k.range)))
      (shown_of_group r mods (slice_get k.groups (in_range (pos group) (length k.groups) k.range)))
      (λ has. key_group_same before k after (in_range (pos group) (length k.groups) k.range) mods e key_whole (group_below group (length k.groups) k.range (some_of (length k.groups) has)))

  shown_from : (code group mods : ℕ) (before after : List ResolvedKey) → r.keys ≡ before ++ after → All (KeyIsWhole r.types) after
      → key_shows (content_of_resolved r) group mods (find (λ k. eqb k.code code) (rows_behind (key_row r.types) before after)) ≡ shown_of_key r group mods (find (λ (k : ResolvedKey). eqb k.code code) after)
  shown_from code group mods before [] e each = refl
  shown_from code group mods before (k ∷ after) e each =
      by (eqb k.code code)
      (key_same before k after group mods e (All-head (KeyIsWhole r.types) k after each))
      (shown_from code group mods (before ++ k ∷ []) after (e ∙ sym (append_assoc before (k ∷ []) after)) (All-tail (KeyIsWhole r.types) k after each))
    where
      by : (b : Bool) → key_shows (content_of_resolved r) group mods (Some (key_row r.types before k)) ≡ shown_of_key r group mods (Some k)
          → key_shows (content_of_resolved r) group mods (find (λ l. eqb l.code code) (rows_behind (key_row r.types) (before ++ k ∷ []) after)) ≡ shown_of_key r group mods (find (λ (l : ResolvedKey). eqb l.code code) after)
          → key_shows (content_of_resolved r) group mods (cond b (Some (key_row r.types before k)) (find (λ l. eqb l.code code) (rows_behind (key_row r.types) (before ++ k ∷ []) after))) ≡ shown_of_key r group mods (cond b (Some k) (find (λ (l : ResolvedKey). eqb l.code code) after))
      by true here rest = here
      by false here rest = rest

known_from : (types : List ResolvedType) (code : ℕ) (before after : List ResolvedKey) → is_some (find (λ k. eqb k.code code) (rows_behind (key_row types) before after)) ≡ is_some (find (λ (k : ResolvedKey). eqb k.code code) after)
known_from types code before [] = refl
known_from types code before (k ∷ after) = by (eqb k.code code) (known_from types code (before ++ k ∷ []) after)
  where
    by : (b : Bool) → is_some (find (λ l. eqb l.code code) (rows_behind (key_row types) (before ++ k ∷ []) after)) ≡ is_some (find (λ (l : ResolvedKey). eqb l.code code) after)
        → is_some (cond b (Some (key_row types before k)) (find (λ l. eqb l.code code) (rows_behind (key_row types) (before ++ k ∷ []) after))) ≡ is_some (cond b (Some k) (find (λ (l : ResolvedKey). eqb l.code code) after))
    by true rest = refl
    by false rest = rest

most_from : (types : List ResolvedType) (before after : List ResolvedKey) → greatest_groups (rows_behind (key_row types) before after) ≡ most_groups after
most_from types before [] = refl
most_from types before (k ∷ after) = ap (max (length k.groups)) (most_from types (before ++ k ∷ []) after)

pub keymaps_agree : (r : Resolved) → IsWhole r → ShowsSame (keymap_of (content_of_resolved r)) (keymap_of_resolved r)
keymaps_agree r whole = record {
  groups = ap (max 1) (most_from r.types [] r.keys);
  known = λ code. known_from r.types code [] r.keys;
  shown = λ code group mods. shown_from r whole code group mods [] r.keys refl whole.each_key;
  indicator_maps = refl;
}

-- the same of any tables that hold r
pub tables_agree : (c : Content) (r : Resolved) → c ≡ content_of_resolved r → IsWhole r → ShowsSame (keymap_of c) (keymap_of_resolved r)
tables_agree c r held whole = subst (λ d. ShowsSame (keymap_of d) (keymap_of_resolved r)) (sym held) (keymaps_agree r whole)

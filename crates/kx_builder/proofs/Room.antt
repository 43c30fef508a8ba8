-- Where what is resolved is within the limits, the places and counts of its tables, and of whatever is pushed next, fit
-- their numbers.
use Rattle.std.specs.Prelude.{ℕ, ◌≡◌, ◌*◌, ◌<◌, ◌≤◌, ◌^◌, ◌++◌, All, List, [], ◌∷◌, length}
use Rattle.std.specs.List.{flat_map}
use Rattle.std.proofs.Common.{ap, arith, refl, suc}
use Rattle.std.proofs.lemmas.List.{length-append}
use Rattle.std.proofs.lemmas.List.Concat.{length-flat_map}
use Rattle.std.proofs.lemmas.List.Elements.{All-append, All-head, All-nil, All-tail, All-weaker}
use Rattle.std.proofs.lemmas.List.Sums.{sum_by-le}
use Rattle.kx_builder.specs.Added.{CellFits, GroupFits, KeyFits, TypeFits, last_count}
use Rattle.kx_builder.specs.Placed.{all_cells, all_entries, all_groups, all_keysyms, cell_row, content_of_resolved, group_row, key_row, names_of_keys, names_of_types, rows_behind}
use Rattle.kx_builder.specs.Pushes.{last_groups}
use Rattle.kx_builder.specs.Resolved.{Resolved, ResolvedCell, ResolvedGroup, ResolvedKey, ResolvedType}
use Rattle.kx_builder.specs.WithinLimits.{CellIsWithinLimits, GroupIsWithinLimits, IsWithinLimits, KeyIsWithinLimits, TypeIsWithinLimits}

-- ---- How much there is of all together

-- what holds of all that each thing owns, holds of all together
pub All_flat : {X A : Type 0} (f : X → List A) (P : A → Type 0) (xs : List X) → All (λ x. All P (f x)) xs → All P (flat_map f xs)
All_flat f P [] each = All-nil P
All_flat f P (x ∷ xs) each = All-append P (f x) (flat_map f xs) (All-head (λ y. All P (f y)) x xs each) (All_flat f P xs (All-tail (λ y. All P (f y)) x xs each))

-- things that own at most n each
pub flat_length : {X A : Type 0} (f : X → List A) (n : ℕ) (xs : List X) → All (λ x. length (f x) ≤ n) xs → length (flat_map f xs) ≤ length xs * n
flat_length f n xs each = rw (length-flat_map f xs) (sum_by-le (λ x. length (f x)) n xs each)

module _ (r : Resolved) (small : IsWithinLimits r) where
  groups_small : All GroupIsWithinLimits (all_groups r.keys)
  groups_small = All_flat (λ (k : ResolvedKey). k.groups) GroupIsWithinLimits r.keys (All-weaker KeyIsWithinLimits (λ (k : ResolvedKey). All GroupIsWithinLimits k.groups) (λ k holds. holds.small_groups) r.keys small.small_keys)

  cells_small : All CellIsWithinLimits (all_cells (all_groups r.keys))
  cells_small = All_flat (λ (g : ResolvedGroup). g.cells) CellIsWithinLimits (all_groups r.keys) (All-weaker GroupIsWithinLimits (λ (g : ResolvedGroup). All CellIsWithinLimits g.cells) (λ g holds. holds.small_cells) (all_groups r.keys) groups_small)

  pub few_entries : length (all_entries r.types) < 2 ^ 32
  few_entries =
      let each : All (λ (t : ResolvedType). length t.entries ≤ 65535) r.types = All-weaker TypeIsWithinLimits (λ (t : ResolvedType). length t.entries ≤ 65535) (λ t holds. let h : length t.entries < 2 ^ 16 = holds.few_entries in omega (arith, h)) r.types small.small_types in
      omega (arith, small.few_types, flat_length (λ (t : ResolvedType). t.entries) 65535 r.types each)

  pub name_bytes : length (names_of_types r.types ++ names_of_keys r.keys) ≤ 17755905
  name_bytes =
      let types : length (names_of_types r.types) ≤ length r.types * 255 = flat_length (λ (t : ResolvedType). t.name) 255 r.types (All-weaker TypeIsWithinLimits (λ (t : ResolvedType). length t.name ≤ 255) (λ t holds. holds.short_name) r.types small.small_types) in
      let keys : length (names_of_keys r.keys) ≤ length r.keys * 255 = flat_length (λ (k : ResolvedKey). k.name) 255 r.keys (All-weaker KeyIsWithinLimits (λ (k : ResolvedKey). length k.name ≤ 255) (λ k holds. holds.short_name) r.keys small.small_keys) in
      omega (arith, types, keys, small.few_types, small.few_keys, length-append (names_of_types r.types) (names_of_keys r.keys))

  pub few_names : length (names_of_types r.types ++ names_of_keys r.keys) < 2 ^ 32
  few_names = omega (arith, name_bytes)

  few_groups : length (all_groups r.keys) ≤ 131072
  few_groups = omega (arith, small.few_keys, flat_length (λ (k : ResolvedKey). k.groups) 32 r.keys (All-weaker KeyIsWithinLimits (λ (k : ResolvedKey). length k.groups ≤ 32) (λ k holds. holds.few_groups) r.keys small.small_keys))

  few_cells : length (all_cells (all_groups r.keys)) ≤ 8388608
  few_cells = omega (arith, few_groups, flat_length (λ (g : ResolvedGroup). g.cells) 64 (all_groups r.keys) (All-weaker GroupIsWithinLimits (λ (g : ResolvedGroup). length g.cells ≤ 64) (λ g holds. holds.few_cells) (all_groups r.keys) groups_small))

  few_keysyms : length (all_keysyms (all_cells (all_groups r.keys))) ≤ 67108864
  few_keysyms = omega (arith, few_cells, flat_length (λ (d : ResolvedCell). d.syms) 8 (all_cells (all_groups r.keys)) cells_small)

-- ---- The tables

rows_length : {X R : Type 0} (row : List X → X → R) (before xs : List X) → length (rows_behind row before xs) ≡ length xs
rows_length row before [] = refl
rows_length row before (x ∷ xs) = ap suc (rows_length row (before ++ x ∷ []) xs)

count_of_last : (types : List ResolvedType) (before keys : List ResolvedKey) → last_count (rows_behind (key_row types) before keys) ≡ length (last_groups keys)
count_of_last types before [] = refl
count_of_last types before (k ∷ []) = refl
count_of_last types before (k ∷ l ∷ ks) = count_of_last types (before ++ k ∷ []) (l ∷ ks)

module _ (r : Resolved) (small : IsWithinLimits r) where
  pub cell_count : length (content_of_resolved r).cells < 2 ^ 32
  cell_count = omega (arith, few_cells r small, rows_length cell_row [] (all_cells (all_groups r.keys)))

  pub keysym_count : length (content_of_resolved r).keysyms < 2 ^ 32
  keysym_count = omega (arith, few_keysyms r small)

  -- ---- What is pushed next

  pub type_fits : (t : ResolvedType) → TypeIsWithinLimits t → TypeFits (content_of_resolved r) t
  type_fits t fits = record {
    entries = fits.few_entries;
    name_length = omega (arith, fits.short_name);
    first_entry = few_entries r small;
    first_name = few_names r small;
  }

  pub key_fits : (k : ResolvedKey) → length k.name ≤ 255 → KeyFits (content_of_resolved r) k
  key_fits k short = record {
    name_length = omega (arith, short);
    first_name = few_names r small;
    first_group = omega (arith, few_groups r small, rows_length group_row [] (all_groups r.keys));
  }

  pub group_fits : length (last_groups r.keys) < 255 → GroupFits (content_of_resolved r)
  group_fits few = record {
    groups = omega (arith, few, count_of_last r.types [] r.keys);
    first_cell = cell_count;
  }

  pub cell_fits : (d : ResolvedCell) → CellIsWithinLimits d → CellFits (content_of_resolved r) d
  cell_fits d fits = record { keysyms = omega (arith, fits); first_keysym = keysym_count }

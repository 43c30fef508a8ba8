-- Groups that grow by cells, and keys that grow by groups.
use Rattle.std.proofs.Common.{suc, ◌≡◌, ◌<◌, ◌++◌, List, [], ◌∷◌, fold, length, refl, sym, ap, ◌∙◌, append_assoc, arith, All}
use Rattle.std.proofs.lemmas.List.{append-nil, length-append}
use Rattle.std.proofs.lemmas.List.Elements.{All-cons, All-head, All-nil, All-push, All-tail}
use Rattle.kx_builder.specs.Pushes.{change_last, group_with_cell, key_with_cell, key_with_group, last_groups, with_cell, with_group, with_key}
use Rattle.kx_builder.proofs.Grown.{change_end, key_then_group}
use Rattle.kx_builder.specs.Resolved.{Resolved, ResolvedCell, ResolvedGroup, ResolvedKey}
use Rattle.kx_builder.specs.WithinLimits.{CellIsWithinLimits, GroupIsWithinLimits, IsWithinLimits, KeyIsWithinLimits}
use Rattle.kx_keys.specs.Bounds.{last_cells, last_cells_of}

-- ---- A change of the last

module _ {X : Type 0} (change : X → X) where
  pub change_length : (xs : List X) → length (change_last change xs) ≡ length xs
  change_length [] = refl
  change_length (x ∷ []) = refl
  change_length (x ∷ y ∷ ys) = ap suc (change_length (y ∷ ys))

  -- one after another
  change_behind : (other : X → X) (x y : X) (ys : List X) → change_last other (x ∷ change_last change (y ∷ ys)) ≡ x ∷ change_last other (change_last change (y ∷ ys))
  change_behind other x y [] = refl
  change_behind other x y (z ∷ zs) = refl

-- ---- Cells after a group

module _ (g : ResolvedGroup) (d : ResolvedCell) where
  cell_in_last : (ks : List ResolvedKey) → change_last (key_with_cell d) (change_last (key_with_group g) ks) ≡ change_last (key_with_group (group_with_cell d g)) ks
  cell_in_last [] = refl
  cell_in_last (k ∷ []) = ap (λ gs. record k { groups = gs } ∷ []) (change_end (group_with_cell d) k.groups g)
  cell_in_last (k ∷ l ∷ ks) = change_behind (key_with_group g) (key_with_cell d) k l ks ∙ ap (λ ls. k ∷ ls) (cell_in_last (l ∷ ks))

group_then_cell : (r : Resolved) (g : ResolvedGroup) (d : ResolvedCell) → with_cell (with_group r g) d ≡ with_group r (group_with_cell d g)
group_then_cell r g d = λ i. record r { keys = cell_in_last g d r.keys i }

pub group_then_cells : (r : Resolved) (g : ResolvedGroup) (ds : List ResolvedCell) → fold with_cell (with_group r g) ds ≡ with_group r (record g { cells = g.cells ++ ds })
group_then_cells r g [] = ap (λ cs. with_group r (record g { cells = cs })) (sym (append-nil g.cells))
group_then_cells r g (d ∷ ds) =
    ap (λ s. fold with_cell s ds) (group_then_cell r g d)
    ∙ group_then_cells r (group_with_cell d g) ds
    ∙ ap (λ cs. with_group r (record g { cells = cs })) (append_assoc g.cells (d ∷ []) ds)

pub key_then_groups : (r : Resolved) (k : ResolvedKey) (gs : List ResolvedGroup) → fold with_group (with_key r k) gs ≡ with_key r (record k { groups = k.groups ++ gs })
key_then_groups r k [] = ap (λ hs. with_key r (record k { groups = hs })) (sym (append-nil k.groups))
key_then_groups r k (g ∷ gs) =
    ap (λ s. fold with_group s gs) (key_then_group r k g)
    ∙ key_then_groups r (key_with_group g k) gs
    ∙ ap (λ hs. with_key r (record k { groups = hs })) (append_assoc k.groups (g ∷ []) gs)

-- ---- The last groups and their cells

last_behind : (k : ResolvedKey) (ks : List ResolvedKey) → 0 < length ks → last_groups (k ∷ ks) ≡ last_groups ks
last_behind k [] some = absurd (omega (arith, some))
last_behind k (l ∷ ks) some = refl

cells_behind : (g : ResolvedGroup) (gs : List ResolvedGroup) → 0 < length gs → last_cells_of (g ∷ gs) ≡ last_cells_of gs
cells_behind g [] some = absurd (omega (arith, some))
cells_behind g (h ∷ gs) some = refl

pub groups_grow : (g : ResolvedGroup) (ks : List ResolvedKey) → 0 < length ks → last_groups (change_last (key_with_group g) ks) ≡ last_groups ks ++ g ∷ []
groups_grow g [] some = absurd (omega (arith, some))
groups_grow g (k ∷ []) some = refl
groups_grow g (k ∷ l ∷ ks) some = last_behind k (change_last (key_with_group g) (l ∷ ks)) (omega (arith, change_length (key_with_group g) (l ∷ ks))) ∙ groups_grow g (l ∷ ks) (omega arith)

groups_keep : (d : ResolvedCell) (ks : List ResolvedKey) → last_groups (change_last (key_with_cell d) ks) ≡ change_last (group_with_cell d) (last_groups ks)
groups_keep d [] = refl
groups_keep d (k ∷ []) = refl
groups_keep d (k ∷ l ∷ ks) = last_behind k (change_last (key_with_cell d) (l ∷ ks)) (omega (arith, change_length (key_with_cell d) (l ∷ ks))) ∙ groups_keep d (l ∷ ks)

cells_grow_in : (d : ResolvedCell) (gs : List ResolvedGroup) → 0 < length gs → last_cells_of (change_last (group_with_cell d) gs) ≡ last_cells_of gs ++ d ∷ []
cells_grow_in d [] some = absurd (omega (arith, some))
cells_grow_in d (g ∷ []) some = refl
cells_grow_in d (g ∷ h ∷ gs) some = cells_behind g (change_last (group_with_cell d) (h ∷ gs)) (omega (arith, change_length (group_with_cell d) (h ∷ gs))) ∙ cells_grow_in d (h ∷ gs) (omega arith)

pub cells_grow : (d : ResolvedCell) (ks : List ResolvedKey) → 0 < length (last_groups ks) → last_cells (change_last (key_with_cell d) ks) ≡ last_cells ks ++ d ∷ []
cells_grow d ks some = ap last_cells_of (groups_keep d ks) ∙ cells_grow_in d (last_groups ks) some

pub groups_count : (d : ResolvedCell) (ks : List ResolvedKey) → length (last_groups (change_last (key_with_cell d) ks)) ≡ length (last_groups ks)
groups_count d ks = ap length (groups_keep d ks) ∙ change_length (group_with_cell d) (last_groups ks)

bare_last : (gs : List ResolvedGroup) (g : ResolvedGroup) → last_cells_of (gs ++ g ∷ []) ≡ g.cells
bare_last [] g = refl
bare_last (h ∷ gs) g = cells_behind h (gs ++ g ∷ []) (omega (arith, length-append gs (g ∷ []))) ∙ bare_last gs g

pub new_cells : (g : ResolvedGroup) (ks : List ResolvedKey) → 0 < length ks → last_cells (change_last (key_with_group g) ks) ≡ g.cells
new_cells g ks some = ap last_cells_of (groups_grow g ks some) ∙ bare_last (last_groups ks) g

-- ---- What is small stays small

small_cells : (d : ResolvedCell) (gs : List ResolvedGroup) → CellIsWithinLimits d → length (last_cells_of gs) < 64 → All GroupIsWithinLimits gs → All GroupIsWithinLimits (change_last (group_with_cell d) gs)
small_cells d [] small few all = all
small_cells d (g ∷ []) small few all =
    let one = All-head GroupIsWithinLimits g [] all in
    All-cons GroupIsWithinLimits (group_with_cell d g) [] (record { few_cells = omega (arith, few, length-append g.cells (d ∷ [])); small_cells = All-push CellIsWithinLimits g.cells d one.small_cells small }) (All-nil GroupIsWithinLimits)
small_cells d (g ∷ h ∷ gs) small few all =
    All-cons GroupIsWithinLimits g (change_last (group_with_cell d) (h ∷ gs)) (All-head GroupIsWithinLimits g (h ∷ gs) all) (small_cells d (h ∷ gs) small few (All-tail GroupIsWithinLimits g (h ∷ gs) all))

small_keys_cell : (d : ResolvedCell) (ks : List ResolvedKey) → CellIsWithinLimits d → length (last_cells ks) < 64 → All KeyIsWithinLimits ks → All KeyIsWithinLimits (change_last (key_with_cell d) ks)
small_keys_cell d [] small few all = all
small_keys_cell d (k ∷ []) small few all =
    let one = All-head KeyIsWithinLimits k [] all in
    All-cons KeyIsWithinLimits (key_with_cell d k) [] (record { short_name = one.short_name; few_groups = omega (arith, one.few_groups, change_length (group_with_cell d) k.groups); small_groups = small_cells d k.groups small few one.small_groups }) (All-nil KeyIsWithinLimits)
small_keys_cell d (k ∷ l ∷ ks) small few all =
    All-cons KeyIsWithinLimits k (change_last (key_with_cell d) (l ∷ ks)) (All-head KeyIsWithinLimits k (l ∷ ks) all) (small_keys_cell d (l ∷ ks) small few (All-tail KeyIsWithinLimits k (l ∷ ks) all))

small_keys_group : (g : ResolvedGroup) (ks : List ResolvedKey) → GroupIsWithinLimits g → length (last_groups ks) < 32 → All KeyIsWithinLimits ks → All KeyIsWithinLimits (change_last (key_with_group g) ks)
small_keys_group g [] small few all = all
small_keys_group g (k ∷ []) small few all =
    let one = All-head KeyIsWithinLimits k [] all in
    All-cons KeyIsWithinLimits (key_with_group g k) [] (record { short_name = one.short_name; few_groups = omega (arith, few, length-append k.groups (g ∷ [])); small_groups = All-push GroupIsWithinLimits k.groups g one.small_groups small }) (All-nil KeyIsWithinLimits)
small_keys_group g (k ∷ l ∷ ks) small few all =
    All-cons KeyIsWithinLimits k (change_last (key_with_group g) (l ∷ ks)) (All-head KeyIsWithinLimits k (l ∷ ks) all) (small_keys_group g (l ∷ ks) small few (All-tail KeyIsWithinLimits k (l ∷ ks) all))

pub small_with_cell : (r : Resolved) (d : ResolvedCell) → IsWithinLimits r → CellIsWithinLimits d → length (last_cells r.keys) < 64 → IsWithinLimits (with_cell r d)
small_with_cell r d small cell few = record {
  few_types = small.few_types;
  small_types = small.small_types;
  few_keys = omega (arith, small.few_keys, change_length (key_with_cell d) r.keys);
  small_keys = small_keys_cell d r.keys cell few small.small_keys;
}

pub small_with_group : (r : Resolved) (g : ResolvedGroup) → IsWithinLimits r → GroupIsWithinLimits g → length (last_groups r.keys) < 32 → IsWithinLimits (with_group r g)
small_with_group r g small group few = record {
  few_types = small.few_types;
  small_types = small.small_types;
  few_keys = omega (arith, small.few_keys, change_length (key_with_group g) r.keys);
  small_keys = small_keys_group g r.keys group few small.small_keys;
}

pub bare_groups : (ks : List ResolvedKey) (k : ResolvedKey) → last_groups (ks ++ k ∷ []) ≡ k.groups
bare_groups [] k = refl
bare_groups (l ∷ ks) k = last_behind l (ks ++ k ∷ []) (omega (arith, length-append ks (k ∷ []))) ∙ bare_groups ks k

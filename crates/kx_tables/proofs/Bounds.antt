-- Where the rows of sound tables lie: what a row owns is within its table.
use Rattle.std.specs.Prelude.{ℕ, List, ◌≡◌, ◌+◌, ◌<◌, ◌≤◌, Some, length, take, sum_by, slice_get}
use Rattle.std.specs.Option.{option_map_or}
use Rattle.std.proofs.Common.{suc, ◌*◌, ◌^◌, [], ◌∷◌, arith, ap, get_or, refl}
use Rattle.std.proofs.lemmas.List.Sums.{sum_by-cons, sum_by_more_le}
use Rattle.std.proofs.lemmas.Option.{slice_get_within, get_or_from_slice_get}
use Rattle.kx_tables.specs.Content.{Content, levels_of}
use Rattle.kx_tables.specs.Sound.{Sound, TypeHolds, KeyHolds, GroupHolds, CellHolds, IndicatorHolds, GroupNameHolds}
use Rattle.kx_tables.specs.declared.rows.CellRow.{CellRow}
use Rattle.kx_tables.specs.declared.rows.GroupNameRow.{GroupNameRow}
use Rattle.kx_tables.specs.declared.rows.GroupRow.{GroupRow}
use Rattle.kx_tables.specs.declared.rows.IndicatorRow.{IndicatorRow}
use Rattle.kx_tables.specs.declared.rows.KeyRow.{KeyRow}
use Rattle.kx_tables.specs.declared.rows.TypeRow.{TypeRow}

-- the sum up to a row and the row's own count are within the whole sum
pub sum_up_to : {X : Type 0} (f : X → ℕ) (xs : List X) (i : ℕ) (x : X) → slice_get xs i ≡ Some x → sum_by f (take i xs) + f x ≤ sum_by f xs
sum_up_to f xs i x e =
    let here : i < length xs = slice_get_within xs i x e in
    let same : f (get_or xs i x) ≡ f x = ap f (get_or_from_slice_get xs i x x e) in
    omega (arith, sum_by_more_le f xs i x here, same)

module _ (c : Content) (sound : Sound c) where
  pub entries_within : (i : ℕ) (t : TypeRow) → slice_get c.types i ≡ Some t → t.first_entry + t.entries ≤ length c.entries
  entries_within i t e =
      let holds : TypeHolds c i t = sound.types i t e in
      omega (arith, sum_up_to (λ u. u.entries) c.types i t e, holds.first_entry, sound.counts.entries)

  pub groups_within : (i : ℕ) (k : KeyRow) → slice_get c.keys i ≡ Some k → k.first_group + k.groups ≤ length c.groups
  groups_within i k e =
      let holds : KeyHolds c i k = sound.keys i k e in
      omega (arith, sum_up_to (λ l. l.groups) c.keys i k e, holds.first_group, sound.counts.groups)

  pub cells_within : (i : ℕ) (g : GroupRow) (t : TypeRow) → slice_get c.groups i ≡ Some g → slice_get c.types g.key_type ≡ Some t → g.first_cell + t.levels ≤ length c.cells
  cells_within i g t e f =
      let holds : GroupHolds c i g = sound.groups i g e in
      let levels : levels_of c g ≡ t.levels = ap (λ o. option_map_or (λ (u : TypeRow). u.levels) o 0) f in
      omega (arith, sum_up_to (levels_of c) c.groups i g e, holds.first_cell, sound.counts.cells, levels)

  pub keysyms_within : (i : ℕ) (d : CellRow) → slice_get c.cells i ≡ Some d → d.first_keysym + d.keysyms ≤ length c.keysyms
  keysyms_within i d e =
      let holds : CellHolds c i d = sound.cells i d e in
      omega (arith, sum_up_to (λ f. f.keysyms) c.cells i d e, holds.first_keysym, sound.counts.keysyms)

  pub type_name_within : (i : ℕ) (t : TypeRow) → slice_get c.types i ≡ Some t → t.first_name + t.name_length ≤ length c.names
  type_name_within i t e =
      let holds : TypeHolds c i t = sound.types i t e in
      omega (arith, sum_up_to (λ u. u.name_length) c.types i t e, holds.first_name, sound.counts.names)

  pub key_name_within : (i : ℕ) (k : KeyRow) → slice_get c.keys i ≡ Some k → k.first_name + k.name_length ≤ length c.names
  key_name_within i k e =
      let holds : KeyHolds c i k = sound.keys i k e in
      omega (arith, sum_up_to (λ l. l.name_length) c.keys i k e, holds.first_name, sound.counts.names)

  pub indicator_name_within : (i : ℕ) (d : IndicatorRow) → slice_get c.indicators i ≡ Some d → d.first_name + d.name_length ≤ length c.names
  indicator_name_within i d e =
      let holds : IndicatorHolds c i d = sound.indicators i d e in
      omega (arith, sum_up_to (λ f. f.name_length) c.indicators i d e, holds.first_name, sound.counts.names)

  pub group_name_within : (i : ℕ) (g : GroupNameRow) → slice_get c.group_names i ≡ Some g → g.first_name + g.name_length ≤ length c.names
  group_name_within i g e =
      let holds : GroupNameHolds c i g = sound.group_names i g e in
      omega (arith, sum_up_to (λ h. h.name_length) c.group_names i g e, holds.first_name, sound.counts.names)

few_groups_of : (keys : List KeyRow) → ((i : ℕ) (k : KeyRow) → slice_get keys i ≡ Some k → k.groups ≤ 32) → sum_by (λ (k : KeyRow). k.groups) keys ≤ 32 * length keys
few_groups_of [] few = omega arith
few_groups_of (key ∷ keys) few =
    let rest = few_groups_of keys (λ i k at. few (suc i) k at) in
    let first = few 0 key refl in
    omega (arith, sum_by-cons (λ (k : KeyRow). k.groups) key keys)

-- all groups together are few
pub few_groups : (c : Content) → Sound c → length c.groups < 2 ^ 32
few_groups c sound =
    let few = few_groups_of c.keys (λ i k at. let holds : KeyHolds c i k = sound.keys i k at in holds.groups) in
    omega (arith, sound.counts.groups, sound.counts.keys)

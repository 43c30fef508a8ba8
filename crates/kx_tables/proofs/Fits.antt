-- Sound tables have counts that fit.
use Rattle.std.specs.Prelude.{ℕ, List, ◌≡◌, ◌*◌, ◌<◌, ◌≤◌, [], ◌∷◌, Some, length, slice_get, sum_by}
use Rattle.std.proofs.Common.{arith, get_or, inl, inr, refl, suc}
use Rattle.std.proofs.lemmas.List.Sums.{sum_by-le}
use Rattle.std.proofs.lemmas.Option.{slice_get_cases, slice_get-get_or}
use Rattle.kx_tables.specs.Content.{Content, greatest_groups}
use Rattle.kx_tables.specs.Fit.{CountsFit}
use Rattle.kx_tables.specs.Sound.{CountsHold, Sound, KeyHolds, IndicatorHolds, GroupNameHolds}
use Rattle.kx_tables.specs.declared.rows.KeyRow.{KeyRow}

-- a table whose rows stand at places below a limit
short_table : {X : Type 0} (xs : List X) (limit : ℕ) → ((x : X) → slice_get xs limit ≡ Some x → limit < limit) → length xs ≤ limit
short_table xs limit low =
    elim ((slice_get_cases xs limit).1) [
      | inl here ↦ absurd (let h = low here.0 here.2 in omega arith)
      | inr past ↦ past.0
    ]

-- counts that hold, where there are few indicators, few group names and few groups a key
pub few_fit : (c : Content) → CountsHold c → length c.indicators ≤ 32 → length c.group_names ≤ 32 → ((i : ℕ) (k : KeyRow) → i < length c.keys → slice_get c.keys i ≡ Some k → k.groups ≤ 32) → CountsFit c
few_fit c counts indicators group_names each = record {
  types = counts.types;
  entries = counts.entries_fit;
  keys = counts.keys;
  groups =
      let most : sum_by (λ k. k.groups) c.keys ≤ length c.keys * 32 = sum_by-le (λ k. k.groups) 32 c.keys (λ i d within. each i (get_or c.keys i d) within (slice_get-get_or c.keys i d within)) in
      omega (arith, most, counts.groups, counts.keys);
  cells = counts.cells_fit;
  keysyms = counts.keysyms_fit;
  indicators = omega arith;
  group_names = omega arith;
  names = counts.names_fit;
}

pub sound_fits : (c : Content) → Sound c → CountsFit c
sound_fits c sound =
    few_fit c sound.counts
    (short_table c.indicators 32 (λ d at. let holds : IndicatorHolds c 32 d = sound.indicators 32 d at in holds.place))
    (short_table c.group_names 32 (λ n at. let holds : GroupNameHolds c 32 n = sound.group_names 32 n at in holds.place))
    (λ i k within at. let holds : KeyHolds c i k = sound.keys i k at in holds.groups)

few_groups : (ks : List KeyRow) → ((i : ℕ) (k : KeyRow) → slice_get ks i ≡ Some k → k.groups ≤ 32) → greatest_groups ks ≤ 32
few_groups [] each = omega arith
few_groups (k ∷ ks) each = let h : k.groups ≤ 32 = each 0 k refl in omega (arith, few_groups ks (λ i l at. each (suc i) l at))

pub groups_fit : (c : Content) → Sound c → greatest_groups c.keys ≤ 32
groups_fit c sound = few_groups c.keys (λ i k at. let holds : KeyHolds c i k = sound.keys i k at in holds.groups)

-- Spots that are found, one after the other.
use Rattle.std.proofs.Common.{◌≡◌, ℕ, ◌+◌, ◌<◌, ◌++◌, ◌∷◌, [], ◌⊎◌, inl, inr, List, Some, slice_get, arith, refl, sym}
use Rattle.std.specs.List.{Contains}
use Rattle.std.proofs.lemmas.Bool.{cases_lt}
use Rattle.std.proofs.lemmas.List.Elements.{Contains-append_left, Contains-push, Contains-push_cases}
use Rattle.kx_tables.specs.Content.{Content}
use Rattle.kx_tables.specs.declared.rows.GroupRow.{GroupRow}
use Rattle.kx_tables.specs.declared.rows.KeyRow.{KeyRow}
use Rattle.kx_tables.specs.declared.rows.TypeRow.{TypeRow}
use Rattle.kx_text.specs.Finding.{Gives, IsLevelOf, LevelGives}
use Rattle.kx_text.specs.declared.finding.Spot.{Spot}

spot_is : (s : Spot) (key group level : ℕ) → s.key ≡ key → s.group ≡ group → s.level ≡ level → record { key = key; group = group; level = level } ≡ s
spot_is s key group level a b d = rw (← a, ← b, ← d) refl

module _ (c : Content) (wanted : List ℕ) (row : GroupRow) (levels key group : ℕ) where
  -- the spot at a level that gives a keysym that is wanted
  pub level_spot : (level : ℕ) → level < levels → LevelGives c wanted row level → IsLevelOf c wanted row levels key group (record { key = key; group = group; level = level })
  level_spot level within gives = record { is_key = refl; is_group = refl; within = within; gives = gives }

  -- each spot up to a level is among those before it, or at it
  pub before_or_at : (level : ℕ) (s : Spot) → IsLevelOf c wanted row (level + 1) key group s → IsLevelOf c wanted row level key group s ⊎ (s.level ≡ level)
  before_or_at level s at =
      elim (cases_lt s.level level) [
        | inl less ↦ inl (record { is_key = at.is_key; is_group = at.is_group; within = less; gives = at.gives })
        | inr more ↦ inr (omega (arith, at.within))
      ]

  pub all_push : (ys zs : List Spot) (level : ℕ) → zs ≡ ys ++ record { key = key; group = group; level = level } ∷ [] → ((s : Spot) → IsLevelOf c wanted row level key group s → Contains ys s) → (s : Spot) → IsLevelOf c wanted row (level + 1) key group s → Contains zs s
  all_push ys zs level e all s at =
      elim (before_or_at level s at) [
        | inl before ↦ rw e (Contains-append_left ys _ s (all s before))
        | inr here ↦ rw (e, sym (spot_is s key group level at.is_key at.is_group here)) (Contains-push ys _)
      ]

  pub all_same : (ys : List Spot) (level : ℕ) → (LevelGives c wanted row level → ⊥) → ((s : Spot) → IsLevelOf c wanted row level key group s → Contains ys s) → (s : Spot) → IsLevelOf c wanted row (level + 1) key group s → Contains ys s
  all_same ys level none all s at =
      elim (before_or_at level s at) [
        | inl before ↦ all s before
        | inr here ↦ let gives : LevelGives c wanted row level = rw (← here) at.gives in absurd (none gives)
      ]

pub kept_push : (xs ys zs : List Spot) (p : Spot) → zs ≡ ys ++ p ∷ [] → ((s : Spot) → Contains xs s → Contains ys s) → (s : Spot) → Contains xs s → Contains zs s
kept_push xs ys zs p e kept s at = rw e (Contains-append_left ys (p ∷ []) s (kept s at))

pub each_push : (P : Spot → Type 0) (xs ys zs : List Spot) (p : Spot) → zs ≡ ys ++ p ∷ [] → ((s : Spot) → Contains ys s → Contains xs s ⊎ P s) → P p → (s : Spot) → Contains zs s → Contains xs s ⊎ P s
each_push P xs ys zs p e each here s at =
    let split : Contains ys s ⊎ (p ≡ s) = Contains-push_cases ys p s (rw (← e) at) in
    elim split [ inl before ↦ each s before | inr same ↦ inr (rw (← same) here) ]

-- a level of a group of a key is a place where the key gives one
pub level_gives : (c : Content) (wanted : List ℕ) (key : KeyRow) (row : GroupRow) (key_type : TypeRow) (place group : ℕ) (s : Spot) → slice_get c.keys place ≡ Some key → group < key.groups → slice_get c.groups (key.first_group + group) ≡ Some row → slice_get c.types row.key_type ≡ Some key_type → IsLevelOf c wanted row key_type.levels place group s → Gives c wanted s
level_gives c wanted key row key_type place group s has_key within has_row has_type at =
    record {
      key = key;
      has_key = rw (at.is_key) has_key;
      within = rw (at.is_group) within;
      row = row;
      has_row = rw (at.is_group) has_row;
      key_type = key_type;
      has_type = has_type;
      is_level = record { is_key = refl; is_group = refl; within = at.within; gives = at.gives };
    }

-- a place where a key gives a keysym, in this group, is one of the group's levels
pub gives_level : (c : Content) (wanted : List ℕ) (key : KeyRow) (row : GroupRow) (key_type : TypeRow) (place group : ℕ) (s : Spot) → slice_get c.keys place ≡ Some key → slice_get c.groups (key.first_group + group) ≡ Some row → slice_get c.types row.key_type ≡ Some key_type → s.key ≡ place → s.group ≡ group → Gives c wanted s → IsLevelOf c wanted row key_type.levels place group s
gives_level c wanted key row key_type place group s has_key has_row has_type is_place is_group gives =
    let same_key : gives.key ≡ key = cc (gives.has_key, has_key, is_place) in
    let same_row : gives.row ≡ row = cc (gives.has_row, has_row, is_group, same_key) in
    let same_type : gives.key_type ≡ key_type = cc (gives.has_type, has_type, same_row) in
    record {
      is_key = is_place;
      is_group = is_group;
      within = rw (← same_type) gives.is_level.within;
      gives = rw (← same_row) gives.is_level.gives;
    }

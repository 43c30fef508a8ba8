-- What a key type gives for effective modifiers, under what sets of names stand for (X Keyboard Extension, key types).
use Rattle.std.specs.Prelude.{ℕ, ◌==◌, ◌||◌, ◌&&◌, not, Bool, false, Option, find, if◌then◌else◌}
use Rattle.std.specs.Option.{option_map_or}
use Rattle.kx_virtual_mods.specs.Sets.{any_below}
use Rattle.kx_types.specs.KeyTypes.{Definition}
use Rattle.kx_types.specs.declared.entry.TypeEntry.{TypeEntry}

-- a set of real modifiers is its test, by their numbers from 0 to 7
abbrev pub RealSet : Type 0
RealSet = ℕ → Bool

abbrev pub are_same : RealSet → RealSet → Bool
are_same a b = not (any_below 8 (λ r. if a r then not (b r) else b r))

-- `real` is what a set of names stands for
module _ (real : ℕ → RealSet) where
  -- an entry whose modifiers stand for nothing is as if it weren't there; one without modifiers stands
  abbrev pub is_live : ℕ → Bool
  is_live mask = (mask == 0) || any_below 8 (real mask)

  -- the first live entry whose modifiers are the effective ones, as far as the type has them
  abbrev pub entry_selected : Definition → RealSet → Option TypeEntry
  entry_selected t effective = find (λ e. is_live e.mask && are_same (real e.mask) (λ r. effective r && real t.modifiers r)) t.entries

  -- level 1 without one
  abbrev pub level_selected : Definition → RealSet → ℕ
  level_selected t effective = option_map_or (λ e. e.level) (entry_selected t effective) 1

  -- the type's modifiers without those that the entry preserves
  abbrev pub consumed : Definition → RealSet → RealSet
  consumed t effective r = real t.modifiers r && not (option_map_or (λ e. real e.preserve r) (entry_selected t effective) false)

-- ---- Under names, for proofs

abbrev pub is_selected : (real : ℕ → RealSet) → Definition → RealSet → TypeEntry → Bool
is_selected real t effective e = is_live real e.mask && are_same (real e.mask) (λ r. effective r && real t.modifiers r)

abbrev pub preserved_by : (ℕ → RealSet) → Option TypeEntry → RealSet
preserved_by real entry r = option_map_or (λ e. real e.preserve r) entry false

abbrev pub differ : Bool → Bool → Bool
differ a b = if a then not b else b

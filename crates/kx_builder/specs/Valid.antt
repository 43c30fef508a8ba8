-- What is resolved is valid: its numbers are within their bounds, names and codes tell things apart, and types stand in
-- the order in which groups use them first.
use Rattle.std.specs.Prelude.{ℕ, ◌≡◌, ◌≢◌, ◌+◌, ◌<◌, ◌≤◌, ◌^◌, All, List, [], ◌∷◌, Some, length, max, slice_get, take}
use Rattle.std.specs.Int.RustNames.{bit_and}
use Rattle.kx_basics.specs.declared.limits.TheConstants.{GREATEST_CODE, MOST_GROUPS, MOST_KEYSYMS, MOST_NAME_BYTES, MOST_LEVELS}
use Rattle.kx_builder.specs.Placed.{all_groups}
use Rattle.kx_builder.specs.Resolved.{Resolved, ResolvedCell, ResolvedEntry, ResolvedGroup, ResolvedKey, ResolvedType}
use Rattle.kx_builder.specs.Whole.{GroupIsWhole, LevelExists}
use Rattle.kx_mods.specs.Mods.{mask}
use Rattle.kx_basics.specs.KeyNames.{IsKeyByte}
use Rattle.kx_basics.specs.Keysyms.{IsKeysym}
use Rattle.kx_tables.specs.Sound.{ActionHolds, RangeHolds}

-- the modifiers of a set are within those of another
abbrev pub MaskWithin : ℕ → ℕ → Type 0
MaskWithin m n = bit_and m n ≡ m

-- no two things of the list have the same f
abbrev pub Apart : {X Y : Type 0} → (X → Y) → List X → Type 0
Apart {X} f xs = (i j : ℕ) (x y : X) → j < i → slice_get xs i ≡ Some x → slice_get xs j ≡ Some y → f y ≢ f x

-- f rises along the list
abbrev pub Rising : {X : Type 0} → (X → ℕ) → List X → Type 0
Rising {X} f xs = (i j : ℕ) (x y : X) → j < i → slice_get xs i ≡ Some x → slice_get xs j ≡ Some y → f y < f x

pub record EntryIsValid (t : ResolvedType) (e : ResolvedEntry) : Type 0 where
  pub level : LevelExists t.levels e
  pub mods : mask e.mods < 2 ^ 8
  pub preserve : mask e.preserve < 2 ^ 8
  pub mods_within : MaskWithin (mask e.mods) (mask t.mods)
  pub preserve_within : MaskWithin (mask e.preserve) (mask e.mods)

pub record TypeIsValid (t : ResolvedType) : Type 0 where
  pub mods : mask t.mods < 2 ^ 8
  pub some_level : 1 ≤ t.levels
  pub levels : t.levels ≤ MOST_LEVELS
  pub each_entry : All (EntryIsValid t) t.entries
  pub entries_apart : Apart (λ (e : ResolvedEntry). mask e.mods) t.entries
  pub entries_fit : length t.entries < 2 ^ 16
  pub name_fits : length t.name ≤ MOST_NAME_BYTES
  pub each_byte : All (λ b. b < 2 ^ 8) t.name

pub record CellIsValid (d : ResolvedCell) : Type 0 where
  pub few : length d.syms ≤ MOST_KEYSYMS
  pub each_keysym : All IsKeysym d.syms
  pub does : ActionHolds d.action

pub record GroupIsValid (types : List ResolvedType) (g : ResolvedGroup) : Type 0 where
  pub whole : GroupIsWhole types g
  pub each_cell : All CellIsValid g.cells

pub record KeyIsValid (types : List ResolvedType) (k : ResolvedKey) : Type 0 where
  pub code_fits : k.code ≤ GREATEST_CODE
  pub mapped : mask k.modmap < 2 ^ 8
  pub range_holds : RangeHolds k.range
  pub few : length k.groups ≤ MOST_GROUPS
  pub each_group : All (GroupIsValid types) k.groups
  pub name_fits : length k.name ≤ MOST_NAME_BYTES
  pub each_byte : All IsKeyByte k.name

-- how many types the groups use, where types are numbered by first use
abbrev pub types_met : List ResolvedGroup → ℕ
types_met [] = 0
types_met (g ∷ gs) = max (g.key_type + 1) (types_met gs)

-- a group's type is one that an earlier group uses, or the next, and each type is used
pub record InOrderOfUse (types : ℕ) (gs : List ResolvedGroup) : Type 0 where
  pub each_first : (i : ℕ) (g : ResolvedGroup) → slice_get gs i ≡ Some g → g.key_type ≤ types_met (take i gs)
  pub all_used : types ≤ types_met gs

pub record IsValid (r : Resolved) : Type 0 where
  pub each_type : All TypeIsValid r.types
  pub types_fit : length r.types < 2 ^ 16
  pub types_apart : Apart (λ (t : ResolvedType). t.name) r.types
  pub order : InOrderOfUse (length r.types) (all_groups r.keys)
  pub each_key : All (KeyIsValid r.types) r.keys
  pub codes_rise : Rising (λ (k : ResolvedKey). k.code) r.keys
  pub keys_apart : Apart (λ (k : ResolvedKey). k.name) r.keys

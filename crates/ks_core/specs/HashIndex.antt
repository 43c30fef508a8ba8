-- What the places of the built-in names are, in which that of a name is found by its hash.
use Rattle.std.specs.Prelude.{◌≡◌, ◌<◌, ℕ, ◌+◌, ◌*◌, ◌/◌, ◌%◌, List, [], Some, All, get_or, length, slice_index}
use Rattle.ks_core.specs.Entry.{Entry, keysym_in}
use Rattle.ks_core.specs.BuiltIn.{built_in}

-- the byte of a name that stands so many sixteenths after its start
abbrev pub byte_at : List ℕ → ℕ → ℕ
byte_at name sixteenths = slice_index name (length name * sixteenths / 16)

-- a number of the length and of five bytes, which tells the built-in names apart
unfoldable pub hash_of : List ℕ → ℕ
hash_of name =
    length name * 32 + byte_at name 1 * 138 + byte_at name 5 * 583 + byte_at name 9 * 868 + byte_at name 10 * 822
    + byte_at name 15 * 256

-- which of 512 slots has the place of a name, by the 128 shifts
unfoldable pub slot_of : List ℕ → List ℕ → ℕ
slot_of shifts name = (hash_of name + slice_index shifts (hash_of name / 512 % 128)) % 512

-- the built-in name at a place, with its keysym
abbrev pub entry_at : ℕ → Entry
entry_at place = get_or built_in place ([], 0)

-- each slot has a place of a built-in name, and that of each name has its own
pub record IsHashIndex (shifts slots : List ℕ) : Type 0 where
  pub shifted : length shifts ≡ 128
  pub slotted : length slots ≡ 512
  pub placed : All (λ place. place < length built_in) slots
  pub whole : (name : List ℕ) (keysym : ℕ) → keysym_in built_in name ≡ Some keysym → (entry_at (slice_index slots (slot_of shifts name))).0 ≡ name

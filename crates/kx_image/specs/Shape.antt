-- The header of an image, where its tables begin, and the first thing that is wrong with its length.
use Rattle.std.specs.Prelude.{ℕ, zero, suc, List, [], ◌∷◌, ◌++◌, ◌==◌, ◌+◌, ◌*◌, Option, None, Some, cond, nat_lt, length, take, slice_index}
use Rattle.std.specs.Option.{option_or}
use Rattle.std.specs.Str.{bytes_eq}
use Rattle.kx_image.specs.Records.{two, four, two_at, four_at}
use Rattle.kx_image.specs.declared.fault.ImageFault.{ImageFault}
use Rattle.kx_image.specs.declared.fault.ImageFault.TheVariants.{Truncated, Magic, Version, Length}
use Rattle.kx_image.specs.declared.header.Header.{Header}
use Rattle.kx_image.specs.declared.header.ImageVersion.{ImageVersion}
use Rattle.kx_image.specs.declared.header.ImageVersion.TheVariants.{One, Two}

-- the first four bytes, `KXI` and a line feed
abbrev pub magic : List ℕ
magic = 75 ∷ 88 ∷ 73 ∷ 10 ∷ []

abbrev pub version_number : ImageVersion → ℕ
version_number One = 1
version_number Two = 2

-- what version 2 has after the header of version 1
abbrev pub new_counts : ImageVersion → ℕ → ℕ → List ℕ
new_counts One indicators group_names = []
new_counts Two indicators group_names = two indicators ++ two group_names

abbrev pub header_bytes : Header → List ℕ
header_bytes h = magic ++ two (version_number h.version) ++ two h.groups ++ two h.types ++ two h.keys ++ four h.entries ++ four h.cells ++ four h.keysyms ++ four h.names ++ new_counts h.version h.indicators h.group_names

abbrev pub header_size : ImageVersion → ℕ
header_size One = 28
header_size Two = 32

abbrev pub version_of : ℕ → ImageVersion
version_of n = cond (n == 1) One Two

-- a count that version 1 doesn't have
abbrev pub new_count_at : ImageVersion → List ℕ → ℕ → ℕ
new_count_at One s i = 0
new_count_at Two s i = two_at s i

-- the header that bytes of version 1 or 2 begin with
abbrev pub header_of : List ℕ → Header
header_of s = record {
  version = version_of (two_at s 4);
  groups = two_at s 6;
  types = two_at s 8;
  keys = two_at s 10;
  entries = four_at s 12;
  cells = four_at s 16;
  keysyms = four_at s 20;
  names = four_at s 24;
  indicators = new_count_at (version_of (two_at s 4)) s 28;
  group_names = new_count_at (version_of (two_at s 4)) s 30;
}

-- what is wrong with the header's form: too short, another magic, another version, too short for version 2
abbrev pub front_fault : List ℕ → Option ImageFault
front_fault s =
    cond (nat_lt (length s) 28) (Some Truncated)
    (cond (bytes_eq (take 4 s) magic)
    (cond (two_at s 4 == 1) None
    (cond (two_at s 4 == 2) (cond (nat_lt (length s) 32) (Some Truncated) None)
    (Some Version)))
    (Some Magic))

-- where each table begins
abbrev pub entries_start : Header → ℕ
entries_start h = header_size h.version + 16 * h.types

abbrev pub keys_start : Header → ℕ
keys_start h = entries_start h + 4 * h.entries

abbrev pub groups_start : Header → ℕ
groups_start h = keys_start h + 16 * h.keys

-- how many groups so many keys from a place on have: each has a byte of its record
abbrev pub groups_from : ℕ → ℕ → List ℕ → ℕ
groups_from zero start s = 0
groups_from (suc n) start s = slice_index s (start + 5) + groups_from n (start + 16) s

abbrev pub group_count : Header → List ℕ → ℕ
group_count h s = groups_from h.keys (keys_start h) s

abbrev pub cells_start : Header → ℕ → ℕ
cells_start h groups = groups_start h + 8 * groups

abbrev pub keysyms_start : Header → ℕ → ℕ
keysyms_start h groups = cells_start h groups + 12 * h.cells

abbrev pub indicators_start : Header → ℕ → ℕ
indicators_start h groups = keysyms_start h groups + 4 * h.keysyms

abbrev pub group_names_start : Header → ℕ → ℕ
group_names_start h groups = indicators_start h groups + 16 * h.indicators

abbrev pub names_start : Header → ℕ → ℕ
names_start h groups = group_names_start h groups + 8 * h.group_names

-- how many bytes the counts call for, the keys' groups among them
abbrev pub called_for : List ℕ → ℕ
called_for s = names_start (header_of s) (group_count (header_of s) s) + (header_of s).names

abbrev pub length_fault : List ℕ → Option ImageFault
length_fault s =
    cond (nat_lt (length s) (called_for s)) (Some Truncated)
    (cond (nat_lt (called_for s) (length s)) (Some Length) None)

-- the first fault of form, in their order
abbrev pub shape_fault : List ℕ → Option ImageFault
shape_fault s = option_or (front_fault s) (length_fault s)

-- The image of a content.
use Rattle.std.specs.Prelude.{ℕ, List, [], ◌≡◌, ◌++◌, ◌+◌, ◌<◌, ◌⊎◌, length, None, Some}
use Rattle.std.specs.List.{flat_map}
use Rattle.kx_tables.specs.Broken.{Breaks}
use Rattle.kx_tables.specs.Content.{Content, greatest_groups, part}
use Rattle.kx_tables.specs.Sound.{Sound}
use Rattle.kx_tables.specs.declared.check.RecordKind.{RecordKind}
use Rattle.kx_tables.specs.declared.check.RecordKind.TheVariants as parts
use Rattle.kx_image.specs.Cut.{rows_at, record_at}
use Rattle.kx_image.specs.Records.{type_bytes, type_of, entry_bytes, entry_of, key_bytes, key_of, group_bytes, group_of, cell_bytes, cell_of, keysym_bytes, keysym_of, indicator_bytes, indicator_of, group_name_bytes, group_name_of}
use Rattle.kx_image.specs.Shape.{header_bytes, header_of, header_size, entries_start, keys_start, groups_start, cells_start, keysyms_start, indicators_start, group_names_start, names_start, group_count, shape_fault}
use Rattle.kx_image.specs.declared.fault.ImageFault.{ImageFault}
use Rattle.kx_image.specs.declared.fault.ImageFault.TheVariants.{Truncated, Magic, Version, Length, BadRecord}
use Rattle.kx_image.specs.declared.header.Header.{Header}
use Rattle.kx_image.specs.declared.header.ImageVersion.{ImageVersion}
use Rattle.kx_image.specs.declared.header.ImageVersion.TheVariants.{One, Two}

abbrev pub header_for : ImageVersion → Content → Header
header_for e c = record {
  version = e;
  groups = greatest_groups c.keys;
  types = length c.types;
  keys = length c.keys;
  entries = length c.entries;
  cells = length c.cells;
  keysyms = length c.keysyms;
  names = length c.names;
  indicators = length c.indicators;
  group_names = length c.group_names;
}

-- the tables' bytes, after the header
abbrev pub body : Content → List ℕ
body c = flat_map type_bytes c.types ++ (flat_map entry_bytes c.entries ++ (flat_map key_bytes c.keys ++ (flat_map group_bytes c.groups ++ (flat_map cell_bytes c.cells
    ++ (flat_map keysym_bytes c.keysyms ++ (flat_map indicator_bytes c.indicators ++ (flat_map group_name_bytes c.group_names ++ c.names)))))))

abbrev pub image : ImageVersion → Content → List ℕ
image e c = header_bytes (header_for e c) ++ body c

-- what a version can tell: version 1 has no indicators and no group names
abbrev pub IsExpressible : ImageVersion → Content → Type 0
IsExpressible One c = (c.indicators ≡ []) × (c.group_names ≡ [])
IsExpressible Two c = Unit {0}

-- the bytes are the image of a sound content, in one of the versions
pub record IsImage (c : Content) (s : List ℕ) : Type 0 where
  pub version : ImageVersion
  pub sound : Sound c
  pub expressible : IsExpressible version c
  pub is : s ≡ image version c

-- the content whose rows the bytes tell, record by record
abbrev pub content_in : List ℕ → Content
content_in s =
    let h = header_of s in
    let groups = group_count h s in
    record {
      types = rows_at type_of 16 h.types (header_size h.version) s;
      entries = rows_at entry_of 4 h.entries (entries_start h) s;
      keys = rows_at key_of 16 h.keys (keys_start h) s;
      groups = rows_at group_of 8 groups (groups_start h) s;
      cells = rows_at cell_of 12 h.cells (cells_start h groups) s;
      keysyms = rows_at keysym_of 4 h.keysyms (keysyms_start h groups) s;
      indicators = rows_at indicator_of 16 h.indicators (indicators_start h groups) s;
      group_names = rows_at group_name_of 8 h.group_names (group_names_start h groups) s;
      names = part s (names_start h groups) h.names;
    }

-- a record's bytes are those of the row that they tell: what is reserved is zero, and no code stands for nothing
abbrev pub IsCanonical : {X : Type 0} → (X → List ℕ) → (List ℕ → X) → List ℕ → Type 0
IsCanonical bytes_of of s = bytes_of (of s) ≡ s

-- the record at an index isn't the bytes of a row
pub record Garbled {X : Type 0} (bytes_of : X → List ℕ) (of : List ℕ → X) (size count start : ℕ) (s : List ℕ) (i : ℕ) : Type 0 where
  pub below : i < count
  pub garbled : IsCanonical bytes_of of (record_at s start size i) → ⊥

abbrev pub RecordGarbled : List ℕ → RecordKind → ℕ → Type 0
RecordGarbled s parts.Header i = (i ≡ 0) × ((header_of s).groups ≡ greatest_groups (content_in s).keys → ⊥)
RecordGarbled s parts.KeyType i = Garbled type_bytes type_of 16 (header_of s).types (header_size (header_of s).version) s i
RecordGarbled s parts.Entry i = Garbled entry_bytes entry_of 4 (header_of s).entries (entries_start (header_of s)) s i
RecordGarbled s parts.Key i = Garbled key_bytes key_of 16 (header_of s).keys (keys_start (header_of s)) s i
RecordGarbled s parts.Group i = Garbled group_bytes group_of 8 (group_count (header_of s) s) (groups_start (header_of s)) s i
RecordGarbled s parts.Cell i = Garbled cell_bytes cell_of 12 (header_of s).cells (cells_start (header_of s) (group_count (header_of s) s)) s i
RecordGarbled s parts.Keysym i = Garbled keysym_bytes keysym_of 4 (header_of s).keysyms (keysyms_start (header_of s) (group_count (header_of s) s)) s i
RecordGarbled s parts.Indicator i = Garbled indicator_bytes indicator_of 16 (header_of s).indicators (indicators_start (header_of s) (group_count (header_of s) s)) s i
RecordGarbled s parts.GroupName i = Garbled group_name_bytes group_name_of 8 (header_of s).group_names (group_names_start (header_of s) (group_count (header_of s) s)) s i
RecordGarbled s parts.Name i = ⊥

-- A fault that the bytes have: the first one of their form, or, where their form has none, a record that breaks a rule
-- by its bytes or by the row that they tell.
abbrev pub HasImageFault : List ℕ → ImageFault → Type 0
HasImageFault s Truncated = shape_fault s ≡ Some Truncated
HasImageFault s Magic = shape_fault s ≡ Some Magic
HasImageFault s Version = shape_fault s ≡ Some Version
HasImageFault s Length = shape_fault s ≡ Some Length
HasImageFault s (BadRecord part i) = (shape_fault s ≡ None) × (RecordGarbled s part i ⊎ Breaks (content_in s) part i)

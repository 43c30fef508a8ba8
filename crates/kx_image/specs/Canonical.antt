-- Tables whose records are all the bytes of their rows.
use Rattle.std.specs.Prelude.{ℕ, List, ◌≡◌, ◌<◌}
use Rattle.kx_tables.specs.declared.check.RecordKind.{RecordKind}
use Rattle.kx_image.specs.Cut.{record_at}
use Rattle.kx_image.specs.Image.{IsCanonical}
use Rattle.kx_image.specs.Records.{type_bytes, type_of, entry_bytes, entry_of, key_bytes, key_of, group_bytes, group_of, cell_bytes, cell_of, keysym_bytes, keysym_of, indicator_bytes, indicator_of, group_name_bytes, group_name_of}
use Rattle.kx_image.specs.Shape.{header_of, header_size, entries_start, keys_start, groups_start, cells_start, keysyms_start, indicators_start, group_names_start, group_count}
use Rattle.kx_image.specs.declared.fault.ImageFault.{ImageFault}
use Rattle.kx_image.specs.declared.fault.ImageFault.TheVariants.{BadRecord}

-- each of so many records of a size is canonical
pub record IsCanonicalTable (is_canonical : List ℕ → Type 0) (size count start : ℕ) (s : List ℕ) : Type 0 where
  pub each : (i : ℕ) → i < count → is_canonical (record_at s start size i)

-- a fault that names a record which isn't canonical
pub record NamesGarbled (is_canonical : List ℕ → Type 0) (part : RecordKind) (size count start : ℕ) (s : List ℕ) (f : ImageFault) : Type 0 where
  pub index : ℕ
  pub is : f ≡ BadRecord part index
  pub below : index < count
  pub garbled : is_canonical (record_at s start size index) → ⊥

pub record AreCanonical (s : List ℕ) : Type 0 where
  pub types : IsCanonicalTable (IsCanonical type_bytes type_of) 16 (header_of s).types (header_size (header_of s).version) s
  pub entries : IsCanonicalTable (IsCanonical entry_bytes entry_of) 4 (header_of s).entries (entries_start (header_of s)) s
  pub keys : IsCanonicalTable (IsCanonical key_bytes key_of) 16 (header_of s).keys (keys_start (header_of s)) s
  pub groups : IsCanonicalTable (IsCanonical group_bytes group_of) 8 (group_count (header_of s) s) (groups_start (header_of s)) s
  pub cells : IsCanonicalTable (IsCanonical cell_bytes cell_of) 12 (header_of s).cells (cells_start (header_of s) (group_count (header_of s) s)) s
  pub keysyms : IsCanonicalTable (IsCanonical keysym_bytes keysym_of) 4 (header_of s).keysyms (keysyms_start (header_of s) (group_count (header_of s) s)) s
  pub indicators : IsCanonicalTable (IsCanonical indicator_bytes indicator_of) 16 (header_of s).indicators (indicators_start (header_of s) (group_count (header_of s) s)) s
  pub group_names : IsCanonicalTable (IsCanonical group_name_bytes group_name_of) 8 (header_of s).group_names (group_names_start (header_of s) (group_count (header_of s) s)) s

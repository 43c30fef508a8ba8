-- Counts and places that are those of the bytes.
use Rattle.std.specs.Prelude.{ℕ, List, ◌≡◌, length}
use Rattle.kx_tables.specs.declared.tables.Counts.{Counts}
use Rattle.kx_image.specs.Shape.{header_of, group_count, called_for}
use Rattle.kx_image.specs.Starts.{starts_of}
use Rattle.kx_image.specs.declared.header.Header.{Header}
use Rattle.kx_image.specs.declared.shape.Starts.{Starts}

-- the counts that a header tells, with so many groups
abbrev pub header_counts : Header → ℕ → Counts
header_counts h groups = record {
  types = h.types;
  entries = h.entries;
  keys = h.keys;
  groups = groups;
  cells = h.cells;
  keysyms = h.keysyms;
  indicators = h.indicators;
  group_names = h.group_names;
  names = h.names;
}

pub record LayoutHolds (s : List ℕ) (counts : Counts) (starts : Starts) : Type 0 where
  pub counts_are : counts ≡ header_counts (header_of s) (group_count (header_of s) s)
  pub starts_are : starts ≡ starts_of (header_of s) (group_count (header_of s) s)
  pub end : length s ≡ called_for s

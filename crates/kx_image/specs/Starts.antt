-- Where each table of an image begins, as numbers that are kept beside the bytes.
use Rattle.std.specs.Prelude.{ℕ, List, ◌≡◌, ◌+◌, None, length}
use Rattle.kx_image.specs.Shape.{header_of, header_size, entries_start, keys_start, groups_start, cells_start, keysyms_start, indicators_start, group_names_start, names_start, group_count, called_for, shape_fault}
use Rattle.kx_image.specs.declared.header.Header.{Header}
use Rattle.kx_image.specs.declared.shape.Starts.{Starts}

abbrev pub starts_of : Header → ℕ → Starts
starts_of h groups = record {
  types = header_size h.version;
  entries = entries_start h;
  keys = keys_start h;
  groups = groups_start h;
  cells = cells_start h groups;
  keysyms = keysyms_start h groups;
  indicators = indicators_start h groups;
  group_names = group_names_start h groups;
  names = names_start h groups;
  end = names_start h groups + h.names;
}

-- bytes without a fault of form, with the header and the number of groups that they tell
pub record IsShape (s : List ℕ) (h : Header) (count : ℕ) : Type 0 where
  pub whole : shape_fault s ≡ None
  pub header : h ≡ header_of s
  pub groups : count ≡ group_count (header_of s) s
  pub end : length s ≡ called_for s

-- What is pushed at once: a type, a key without groups, a group without levels, and the keys of a code.
use Rattle.std.specs.Prelude.{ℕ, List, [], ◌++◌}
use Rattle.kx_builder.specs.Resolved.{Resolved, ResolvedGroup, ResolvedKey, ResolvedType}
use Rattle.kx_mods.specs.declared.mods.Mods.{Mods}
use Rattle.kx_tables.specs.declared.rows.EntryRow.{EntryRow}
use Rattle.kx_tables.specs.declared.rows.Range.{Range}

abbrev pub whole_type : List ℕ → Mods → ℕ → List EntryRow → ResolvedType
whole_type name mods levels entries = record { name = name; mods = mods; levels = levels; entries = entries }

abbrev pub bare_key : ℕ → List ℕ → Mods → Range → ResolvedKey
bare_key code name modmap range = record { code = code; name = name; modmap = modmap; range = range; groups = [] }

abbrev pub bare_group : ℕ → ResolvedGroup
bare_group key_type = record { key_type = key_type; cells = [] }

abbrev pub with_keys : Resolved → List ResolvedKey → Resolved
with_keys r keys = record r { keys = r.keys ++ keys }

-- The tokens of a printed key type.
use Rattle.std.specs.Prelude.{List, [], ◌∷◌, ◌++◌, codes}
use Rattle.std.specs.List.{flat_map}
use Rattle.kx_builder.specs.Resolved.{ResolvedType}
use Rattle.roundtrip_text.specs.Slices.{Slice}
use Rattle.roundtrip_text.specs.Spelled.{word, text, mods_terms, setting_slices, entry_slices, levels_slices, block_slices}

abbrev pub type_statement_slices : ResolvedType → List Slice
type_statement_slices t =
    block_slices (word (codes "type") ∷ text t.name ∷ [])
    (setting_slices (codes "modifiers") (mods_terms t.mods) ++ (flat_map entry_slices t.entries ++ levels_slices t.levels))

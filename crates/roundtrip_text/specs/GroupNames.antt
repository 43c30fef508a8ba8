-- The tokens of a printed name of a group.
use Rattle.std.specs.Prelude.{List, [], ◌∷◌, codes}
use Rattle.roundtrip_text.specs.Slices.{Slice}
use Rattle.roundtrip_text.specs.Source.{NamedGroup}
use Rattle.roundtrip_text.specs.Spelled.{number, text, setting_at_slices}

abbrev pub name_statement_slices : NamedGroup → List Slice
name_statement_slices g = setting_at_slices (codes "name") (number g.group ∷ []) (text g.name ∷ [])
